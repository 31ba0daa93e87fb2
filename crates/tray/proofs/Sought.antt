-- The combined look-up's answer from its three parts: what refuses it, the latest report that was read, and the file's answer.
use mathlib.Core.Path.{◌≡◌, refl, sym, ap, ◌∙◌}
use mathlib.Core.Bool.{Bool, true, false, cond, ◌&&◌}
use mathlib.Core.List.{List, []}
use Prim.Native.Nat.{ℕ, zero, suc, ◌≤◌}
use native.Mathlib.Omega.{arith}
use lib.ListN.{length, take}
use Rattle.hashing.specs.declared.Parameters.{Parameters}
use Rattle.placement.specs.File.{File}
use Rattle.calls.specs.declared.records.GrowthRecord.{GrowthRecord}
use Rattle.calls.specs.declared.answers.Answer.{Answer}
use Rattle.calls.specs.declared.answers.Refusal.{Refusal}
use Rattle.calls.specs.Answers.{refusal_number, refused, refused_by}
use Rattle.calls.specs.Calls.{file_lengths, file_fits_lem}
use Rattle.calls.proofs.Numbers.{numbered}
use Rattle.reports.specs.declared.Report.{Report}
use Rattle.reports.specs.Bits.{passes}
use Rattle.reports.specs.Reports.{waiting, tray_fits_lem, latest_or}
use Rattle.reports.specs.TrayCalls.{answered_unless, sought_refusal, plain_answer, combined_of}
use Rattle.tray_list.specs.declared.reading.Latest.{Latest}
use Rattle.tray_list.specs.Latest.{latest_in, nothing, or_plain}
use Rattle.tray_list.proofs.Answering.{latest-answers, nothing-answers}
use Rattle.tray.specs.Lent.{tray_of}
use Rattle.tray.specs.Refusals.{tray_lengths, screen_refusal, scanned}
use Rattle.tray.proofs.Refused.{pageless}

pub sought-refusal-is : (p : Parameters) (r : GrowthRecord) (f : File) (reports : List Report) (count : ℕ) (filter : List ℕ) (k : ℕ)
    → sought_refusal p r f (tray_of reports count) filter k
    ≡ screen_refusal p r (file_lengths p (length f.separators) (length f.numbers) (length f.words) (length f.owners) && tray_lengths (length reports) count (length filter)) k
unfolding sought_refusal screen_refusal file_fits_lem tray_fits_lem tray_lengths
sought-refusal-is p r f reports count filter k = refl

answered : (n : ℕ) (answer : Answer) → 1 ≤ n → answered_unless n answer ≡ refused n 0
answered zero answer h = absurd (omega (arith, h))
answered (suc n) answer h = refl

-- a refusal that has no page
pub answered-refused : (a : Refusal) (answer : Answer) → refusal_number a ≤ 3 → refused_by a 0 ≡ answered_unless (refusal_number a) answer
answered-refused a answer h = pageless a (λ five. omega (arith, h, five)) ∙ sym (answered (refusal_number a) answer (numbered a))

read-answers : (M k : ℕ) (xs : List Report) (plain : Answer) → or_plain M (latest_in k nothing xs) plain ≡ latest_or M k xs plain
read-answers M k xs plain = latest-answers M k nothing xs plain ∙ ap (latest_or M k xs) (nothing-answers M plain)

by_parts : (M k n count : ℕ) (passed : Bool) (reports : List Report) (plain : Answer)
    → answered_unless n (or_plain M (latest_in k nothing (take (scanned n passed count) reports)) plain) ≡ answered_unless n (cond passed (latest_or M k (waiting (tray_of reports count)) plain) plain)
unfolding scanned waiting latest_or
by_parts M k zero count true reports plain = read-answers M k (take count reports) plain
by_parts M k zero count false reports plain = read-answers M k (take 0 reports) plain
by_parts M k (suc n) count passed reports plain = refl

pub combined_is : (p : Parameters) (r : GrowthRecord) (f : File) (reports : List Report) (count : ℕ) (filter : List ℕ) (k n : ℕ) (l : Latest)
    → n ≡ sought_refusal p r f (tray_of reports count) filter k → l ≡ latest_in k nothing (take (scanned n (passes p.multiplier filter k) count) reports)
    → answered_unless n (or_plain p.pages l (plain_answer p r f k)) ≡ combined_of p r f (tray_of reports count) filter k
unfolding combined_of
combined_is p r f reports count filter k n l e is =
    rw (← e, is) (by_parts p.pages k n count (passes p.multiplier filter k) reports (plain_answer p r f k))
