-- The filter that the calls keep is the one made anew from the waiting reports; so its bits are exactly theirs.
use mathlib.Core.Path.{◌≡◌, refl, sym, ap, ◌∙◌}
use mathlib.Core.Bool.{Bool, true, false, cond, ◌&&◌, ◌||◌}
use mathlib.Core.List.{List, [], ◌∷◌, ◌++◌}
use Prim.Native.Nat.{ℕ, zero, suc, ◌+◌, ◌-◌, ◌≤◌, ◌<◌}
use native.Mathlib.Nat.{not-suc-le-zero, le_of_suc-le-suc, le_refl, le_trans, suc-ne-zero}
use native.Mathlib.Omega.{arith}
use lib.Dec.{eqb, ltb}
use lib.ListN.{length, take, set, replicate, length-set, length-append, length-replicate, length-take}
use lib.Seq.{take-append_seam}
use borrow.Author.Tests.{ltb-true}
use Rattle.hashing.specs.declared.Parameters.{Parameters}
use Rattle.placement.specs.File.{File}
use Rattle.pages.specs.Position.{valid_number, valid_position}
use Rattle.calls.specs.declared.records.GrowthRecord.{GrowthRecord}
use Rattle.calls.specs.declared.answers.Answer.{Answer}
use Rattle.calls.specs.Answers.{Pool, cleared}
use Rattle.calls.specs.Calls.{unless, or_else, file_fits_lem, pool_fits_lem}
use Rattle.reports.specs.Bits.{no_bits, bit_at, marked, passes}
use Rattle.reports.specs.Reports.{Report, Tray, no_report, stored, empty_tray, waiting, tray_fits_lem, with_report, closed_tray, filter_of, is_bit_of_any, latest_or, reported_position, is_removal}
use Rattle.reports.specs.TrayCalls.{tray_refusal, add_refusal, added_unless, AfterAdding, add_of, answered_unless, sought_refusal, plain_answer, combined_of, unfiltered_of}
use Rattle.reports.specs.Filing.{report_filed, one_more_lem, filed_from, AfterFiling, filed_unless, left_by, not_filed_lem, filing_of}
use Rattle.reports.specs.Exact.{TrayCall, add, seek, filing, called_under, Kept, from_zeros, called, called_all, OneMultiplier, Exact, FilterExact}
use Rattle.reports.proofs.Words.{words-filter_of}
use Rattle.reports.proofs.BitCount.{shown-is}
use Rattle.reports.proofs.Marks.{marked-last, length-filter_of, exact-bits, unnamed, not_reported}

-- what every call keeps
pub record Belongs (a : ℕ) (t : Tray) (filter : List ℕ) : Type 0 where
  pub made : filter ≡ filter_of a (waiting t)
  pub lent : length t.reports ≡ 256
  pub within : t.count ≤ 256

-- what follows

looks_alike : (a : ℕ) (t : Tray) (p : Parameters) (r : GrowthRecord) (f : File) (k : ℕ) (filter : List ℕ) → filter ≡ filter_of a (waiting t)
    → p.multiplier ≡ a → combined_of p r f t filter k ≡ unfiltered_of p r f t filter k
unfolding combined_of unfiltered_of
looks_alike a t p r f k filter made one =
    ap (λ (answer : Answer). answered_unless (sought_refusal p r f t filter k) answer) (go (passes p.multiplier filter k) refl)
  where
    go : (y : Bool) → passes p.multiplier filter k ≡ y
        → cond y (latest_or p.pages k (waiting t) (plain_answer p r f k)) (plain_answer p r f k)
        ≡ latest_or p.pages k (waiting t) (plain_answer p r f k)
    go true e = refl
    go false e =
        sym (not_reported p.pages k (waiting t) (plain_answer p r f k)
        (unnamed a k (waiting t) (rw (← made, ← one) e)))

pub exact : (a : ℕ) (t : Tray) (filter : List ℕ) → Belongs a t filter → Exact a t filter
exact a t filter b =
    record {
      bits = λ i h. ap (λ (l : List ℕ). bit_at l i) b.made ∙ exact-bits a (waiting t) i h;
      absent = λ k n. unnamed a k (waiting t) (ap (λ (l : List ℕ). passes a l k) (sym b.made) ∙ n);
      looks = λ p r f k one. looks_alike a t p r f k filter b.made one;
      reports_lent = b.lent;
      filter_lent = ap (λ (l : List ℕ). length l) b.made ∙ length-filter_of a (waiting t);
      counted = b.within;
      words = λ i. rw b.made (words-filter_of a (waiting t) i);
      shown =
          shown-is filter (is_bit_of_any a (waiting t)) (ap (λ (l : List ℕ). length l) b.made ∙ length-filter_of a (waiting t))
          (λ i h. ap (λ (l : List ℕ). bit_at l i) b.made ∙ exact-bits a (waiting t) i h);
    }

-- from zeros
zeros-belong : (a : ℕ) → Belongs a from_zeros.tray from_zeros.filter
unfolding from_zeros empty_tray waiting filter_of Rattle.reports.specs.Reports.marked_all
zeros-belong a = record { made = refl; lent = length-replicate 256 no_report; within = omega arith }

-- adding

take-set : {A : Type 0} (l : List A) (i : ℕ) (x : A) → i < length l → take (suc i) (set l i x) ≡ take i l ++ (x ∷ [])
take-set [] i x h = absurd (not-suc-le-zero h)
take-set (y ∷ l) zero x h = refl
take-set {A} (y ∷ l) (suc i) x h = ap (λ (m : List A). y ∷ m) (take-set l i x (le_of_suc-le-suc h))

add_belongs : (a : ℕ) (t : Tray) (filter : List ℕ) (x : Report) → Belongs a t filter → t.count < 256 → Belongs a (with_report t x) (marked a filter x.number)
unfolding with_report waiting filter_of stored
add_belongs a t filter x b room =
    record {
      made =
          ap (λ (l : List ℕ). marked a l x.number) b.made
          ∙ sym (marked-last a no_bits (take t.count t.reports) (stored x))
          ∙ ap (λ (l : List Report). filter_of a l) (sym (take-set t.reports t.count (stored x) (omega (arith, b.lent, room))));
      lent = length-set t.reports t.count (stored x) ∙ b.lent;
      within = room;
    }

or_else_zero : (m n : ℕ) → or_else m n ≡ 0 → n ≡ 0
or_else_zero zero n e = e
or_else_zero (suc m) n e = absurd (suc-ne-zero m e)

pub unless-zero : (t : Bool) (n : ℕ) → unless t (suc n) ≡ 0 → t ≡ true
unless-zero true n e = refl
unless-zero false n e = absurd (suc-ne-zero n e)

add_room : (p : Parameters) (r : GrowthRecord) (t : Tray) (filter : List ℕ) (x : Report) → add_refusal p r t filter x ≡ 0 → t.count < 256
unfolding add_refusal
add_room p r t filter x e =
    ltb-true t.count 256
    (unless-zero (ltb t.count 256) 13
    (or_else_zero (unless (is_removal x || valid_position (reported_position x)) 4) (unless (ltb t.count 256) 14)
    (or_else_zero (unless (valid_number x.number) 3) (or_else (unless (is_removal x || valid_position (reported_position x)) 4) (unless (ltb t.count 256) 14))
    (or_else_zero (tray_refusal p r (tray_fits_lem t filter))
    (or_else (unless (valid_number x.number) 3) (or_else (unless (is_removal x || valid_position (reported_position x)) 4) (unless (ltb t.count 256) 14)))
    e))))

added-belongs : (a : ℕ) (t : Tray) (filter : List ℕ) (n : ℕ) (after : AfterAdding) → Belongs a t filter
    → (n ≡ 0 → Belongs a after.tray after.filter) → Belongs a (added_unless n t filter after).tray (added_unless n t filter after).filter
unfolding added_unless
added-belongs a t filter zero after b new = new refl
added-belongs a t filter (suc n) after b new = b

pub after-adding : (p : Parameters) (r : GrowthRecord) (t : Tray) (filter : List ℕ) (x : Report) → Belongs p.multiplier t filter
    → Belongs p.multiplier (add_of p r t filter x).tray (add_of p r t filter x).filter
unfolding add_of
after-adding p r t filter x b =
    added-belongs p.multiplier t filter (add_refusal p r t filter x) _ b
    (λ e. add_belongs p.multiplier t filter x b (add_room p r t filter x e))

-- filing

rest-most : (p : Parameters) (r : GrowthRecord) (f : File) (pool : Pool) (xs : List Report) → length (filed_from p r f pool xs).rest ≤ length xs
unfolding filed_from
rest-most p r f pool [] = le_refl 0
rest-most p r f pool (x ∷ xs) = go (eqb (report_filed p r f pool x).answer.refusal 0) (rest-most p r (report_filed p r f pool x).file pool xs)
  where
    go : (y : Bool) → length (filed_from p r (report_filed p r f pool x).file pool xs).rest ≤ length xs
        → length (cond y
        (one_more_lem (filed_from p r (report_filed p r f pool x).file pool xs))
        (record { filed = 0; answer = (report_filed p r f pool x).answer; file = (report_filed p r f pool x).file; rest = x ∷ xs })).rest
        ≤ suc (length xs)
    go true h = omega (arith, h)
    go false h = le_refl (suc (length xs))

closed-belongs : (a : ℕ) (rest : List Report) → length rest ≤ 256 → Belongs a (closed_tray rest) (filter_of a rest)
unfolding closed_tray waiting
closed-belongs a rest h =
    record {
      made = ap (λ (l : List Report). filter_of a l) (sym (take-append_seam rest (replicate (256 - length rest) no_report)));
      lent = length-append rest (replicate (256 - length rest) no_report) ∙ size;
      within = h;
    }
  where
    size : length rest + length (replicate (256 - length rest) no_report) ≡ 256
    size = let n : length (replicate (256 - length rest) no_report) ≡ 256 - length rest = length-replicate (256 - length rest) no_report in omega (arith, n, h)

waiting-most : (t : Tray) → length t.reports ≡ 256 → length (waiting t) ≤ 256
unfolding waiting
waiting-most t e = omega (arith, length-take t.count t.reports, e)

filed-belongs : (a : ℕ) (f : File) (pool : Pool) (t : Tray) (filter : List ℕ) (n : ℕ) (after : AfterFiling) → Belongs a t filter
    → Belongs a after.tray after.filter → Belongs a (filed_unless n f pool t filter after).tray (filed_unless n f pool t filter after).filter
unfolding filed_unless
filed-belongs a f pool t filter zero after b new = new
filed-belongs a f pool t filter (suc n) after b new = b

turn-belongs : (a : ℕ) (y : Bool) (one two : AfterFiling) → Belongs a one.tray one.filter → Belongs a two.tray two.filter
    → Belongs a (cond y one two).tray (cond y one two).filter
turn-belongs a true one two b c = b
turn-belongs a false one two b c = c

pub after-filing : (p : Parameters) (r : GrowthRecord) (f : File) (pool : Pool) (t : Tray) (filter : List ℕ) → Belongs p.multiplier t filter
    → Belongs p.multiplier (filing_of p r f pool t filter).tray (filing_of p r f pool t filter).filter
unfolding filing_of left_by
after-filing p r f pool t filter b =
    filed-belongs p.multiplier f pool t filter (tray_refusal p r (file_fits_lem p f && (pool_fits_lem p pool && tray_fits_lem t filter))) _ b
    (turn-belongs p.multiplier r.growing (not_filed_lem f (cleared pool) t filter 16)
    (left_by p.multiplier (filed_from p r f (cleared pool) (waiting t)) (cleared pool))
    b
    (closed-belongs p.multiplier (filed_from p r f (cleared pool) (waiting t)).rest
    (le_trans (rest-most p r f (cleared pool) (waiting t)) (waiting-most t b.lent))))

-- every list of calls

step-belongs : (a : ℕ) (s : Kept) (c : TrayCall) → called_under c ≡ a → Belongs a s.tray s.filter → Belongs a (called s c).tray (called s c).filter
unfolding called called_under
step-belongs a s (add p r x) e b = rw (← e) (after-adding p r s.tray s.filter x (rw e b))
step-belongs a s (seek p r f k) e b = b
step-belongs a s (filing p r f pool) e b = rw (← e) (after-filing p r f pool s.tray s.filter (rw e b))

all-belong : (a : ℕ) (s : Kept) (cs : List TrayCall) → OneMultiplier a cs → Belongs a s.tray s.filter
    → Belongs a (called_all s cs).tray (called_all s cs).filter
unfolding called_all OneMultiplier
all-belong a s [] one b = b
all-belong a s (c ∷ cs) one b = all-belong a (called s c) cs one.1 (step-belongs a s c one.0 b)

pub filter-exact : FilterExact
filter-exact a cs one =
    exact a (called_all from_zeros cs).tray (called_all from_zeros cs).filter (all-belong a from_zeros cs one (zeros-belong a))
