-- The refusals of the tray's calls as answers.
use mathlib.Core.Path.{◌≡◌, refl, sym, ap, ◌∙◌}
use mathlib.Core.Bool.{Bool, true, false, ◌&&◌, ◌||◌}
use mathlib.Core.List.{List}
use Prim.Native.Nat.{ℕ, zero, suc, ◌+◌, ◌≤◌, ◌<◌}
use native.Mathlib.Numerals.{add-one}
use native.Mathlib.Omega.{arith}
use lib.Dec.{eqb, leb, ltb}
use borrow.Author.Tests.{eqb-true, leb-true, ltb-true, ne_eqb}
use lib.ListN.{length, set}
use lib.Seq.{set_out}
use Rattle.hashing.specs.declared.Parameters.{Parameters}
use Rattle.hashing.specs.Limits.{valid_parameters, valid_growth}
use Rattle.generator.specs.Generator.{valid_multiplier}
use Rattle.hashing.proofs.Bounds.{limits}
use Rattle.buffers.proofs.Tests.{and-true}
use Rattle.pages.specs.Position.{valid_number, valid_position}
use Rattle.calls.specs.declared.records.GrowthRecord.{GrowthRecord}
use Rattle.calls.specs.declared.answers.Refusal.{Refusal}
use Rattle.calls.specs.declared.answers.Refusal.TheVariants.{
  BadParameters,
  BadLength,
  BadNumber,
  BadPosition,
  Damaged,
  Held,
  NotHeld,
  Full,
  Ungrown,
  BadHeader,
  BadRows,
  ShortOutput,
  NotOwner,
  TrayFull,
  BadContents,
  OutOfTurn,
}
use Rattle.calls.specs.declared.answers.Placed.TheVariants.{On}
use Rattle.calls.specs.Answers.{refusal_number, refused, refused_by, placed}
use Rattle.calls.specs.Calls.{unless, or_else, unlent}
use Rattle.calls.specs.Records.{valid_steps}
use Rattle.calls.proofs.Numbers.{numbered}
use Rattle.calls.proofs.Refusals.{unlent-facts}
use Rattle.reports.specs.declared.Report.{Report}
use Rattle.reports.specs.Bits.{marked}
use Rattle.reports.specs.Reports.{Tray, tray_fits_lem, is_removal, reported_position, stored, with_report}
use Rattle.reports.specs.TrayCalls.{tray_refusal, add_refusal, AfterAdding, added_unless, add_of}
use Rattle.tray.specs.Lent.{tray_of, AddsReport}
use Rattle.tray.specs.Shape.{turned}
use Rattle.call_guard.specs.Turn.{record_refusal}
use Rattle.tray.specs.Refusals.{tray_lengths, report_refusal, screen_refusal, scanned}

-- only 5 has a page
pub pageless : (a : Refusal) → (refusal_number a ≡ 5 → ⊥) → refused_by a 0 ≡ refused (refusal_number a) 0
unfolding refused_by
pageless BadParameters h = refl
pageless BadLength h = refl
pageless BadNumber h = refl
pageless BadPosition h = refl
pageless (Damaged page) h = absurd (h refl)
pageless Held h = refl
pageless NotHeld h = refl
pageless Full h = refl
pageless Ungrown h = refl
pageless BadHeader h = refl
pageless BadRows h = refl
pageless ShortOutput h = refl
pageless NotOwner h = refl
pageless TrayFull h = refl
pageless BadContents h = refl
pageless OutOfTurn h = refl

-- 1 and 2 at most
pub tray_refusal-most : (p : Parameters) (r : GrowthRecord) (lengths : Bool) → tray_refusal p r lengths ≤ 2
unfolding tray_refusal unlent
tray_refusal-most p r lengths = go (valid_steps p r) (valid_parameters p && valid_growth p r.state) lengths
  where
    go : (s t u : Bool) → or_else (unless s 1) (or_else (unless t 1) (unless u 2)) ≤ 2
    go true true true = omega arith
    go true true false = omega arith
    go true false u = omega arith
    go false t u = omega arith

-- past them
pub tray_refusal-none : (p : Parameters) (r : GrowthRecord) (lengths : Bool) → tray_refusal p r lengths ≡ 0 → (valid_multiplier p.multiplier ≡ true) × (lengths ≡ true)
unfolding tray_refusal
tray_refusal-none p r lengths = go (valid_steps p r)
  where
    go : (s : Bool) → or_else (unless s 1) (unlent p r.state lengths) ≡ 0 → (valid_multiplier p.multiplier ≡ true) × (lengths ≡ true)
    go true e =
        let t = unlent-facts p r.state lengths e in
        ((limits p (and-true (valid_parameters p) (valid_growth p r.state) t.0).0).multiplier_valid, t.1)
    go false e = absurd (omega arith)

-- the first of two refusals
pub first-none : (m n : ℕ) → or_else m n ≡ 0 → (m ≡ 0) × (n ≡ 0)
first-none zero n e = (refl, e)
first-none (suc m) n e = absurd (omega (arith, e))

other : (m : ℕ) (s t u : Bool) → m ≤ 2 → or_else m (or_else (unless s 3) (or_else (unless t 4) (unless u 14))) ≡ 5 → ⊥
other zero true true true h e = omega (arith, e)
other zero true true false h e = omega (arith, e)
other zero true false u h e = omega (arith, e)
other zero false t u h e = omega (arith, e)
other (suc m) s t u h e = omega (arith, h, e)

pub report-not_five : (p : Parameters) (r : GrowthRecord) (lengths : Bool) (count : ℕ) (x : Report) → report_refusal p r lengths count x ≡ 5 → ⊥
unfolding report_refusal
report-not_five p r lengths count x =
    other (tray_refusal p r lengths) (valid_number x.number) (is_removal x || valid_position (reported_position x)) (ltb count 256) (tray_refusal-most p r lengths)

screened_most : (m : ℕ) (s : Bool) → m ≤ 2 → or_else m (unless s 3) ≤ 3
screened_most zero true h = omega arith
screened_most zero false h = omega arith
screened_most (suc m) s h = omega (arith, h)

pub screen_most : (p : Parameters) (r : GrowthRecord) (lengths : Bool) (k : ℕ) → screen_refusal p r lengths k ≤ 3
unfolding screen_refusal
screen_most p r lengths k = screened_most (tray_refusal p r lengths) (valid_number k) (tray_refusal-most p r lengths)

-- the refusals by lengths are those of the definitions
pub add_refusal-is : (p : Parameters) (r : GrowthRecord) (reports : List Report) (count : ℕ) (filter : List ℕ) (x : Report)
    → add_refusal p r (tray_of reports count) filter x ≡ report_refusal p r (tray_lengths (length reports) count (length filter)) count x
unfolding add_refusal report_refusal tray_fits_lem tray_lengths
add_refusal-is p r reports count filter x = refl

unless-refused : (n : ℕ) (t : Tray) (filter : List ℕ) (after : AfterAdding) → 1 ≤ n → added_unless n t filter after ≡ record { answer = refused n 0; tray = t; filter = filter }
unfolding added_unless
unless-refused zero t filter after h = absurd (omega (arith, h))
unless-refused (suc n) t filter after h = refl

-- a refused report leaves tray and filter
pub refused-adds : (p : Parameters) (r : GrowthRecord) (reports : List Report) (count places : ℕ) (filter : List ℕ) (x : Report) (a : Refusal) → length reports ≡ places
    → refusal_number a ≡ report_refusal p r (tray_lengths places count (length filter)) count x
    → AddsReport (add_of p r (tray_of reports count) filter x) (turned a count places x).added (set reports places x) filter
unfolding add_of placed
refused-adds p r reports count places filter x a size e =
    let number : add_refusal p r (tray_of reports count) filter x ≡ refusal_number a = add_refusal-is p r reports count filter x ∙ rw size (sym e) in
    let t : Tray = tray_of reports count in
    let is : add_of p r t filter x ≡ record { answer = refused (refusal_number a) 0; tray = t; filter = filter } = rw number (unless-refused (refusal_number a) t filter _ (numbered a)) in
    rw is (record {
      answers = pageless a (λ five. report-not_five p r (tray_lengths places count (length filter)) count x (sym e ∙ five));
      trays = rw (set_out reports places x (omega (arith, size)));
      filters = refl;
    })

-- an accepted one is added
pub accepted-adds : (p : Parameters) (r : GrowthRecord) (reports : List Report) (count places : ℕ) (filter filter' : List ℕ) (x : Report) → length reports ≡ places
    → report_refusal p r (tray_lengths places count (length filter)) count x ≡ 0 → filter' ≡ marked p.multiplier filter x.number
    → AddsReport (add_of p r (tray_of reports count) filter x) (record { answer = On 0 0; count = count + 1 }) (set reports count (stored x)) filter'
unfolding add_of added_unless with_report placed
accepted-adds p r reports count places filter filter' x size e m =
    let number : add_refusal p r (tray_of reports count) filter x ≡ 0 = add_refusal-is p r reports count filter x ∙ rw size e in
    rw number (record { answers = refl; trays = rw add-one; filters = m })

-- Reports past the tests

first-is : (m n : ℕ) → 1 ≤ m → m ≡ or_else m n
first-is zero n h = absurd (omega (arith, h))
first-is (suc m) n h = refl

pub record_is : (p : Parameters) (r : GrowthRecord) (lengths : Bool) → record_refusal p r lengths ≡ tray_refusal p r lengths
unfolding record_refusal tray_refusal
record_is p r lengths = refl

pub report-turned : (p : Parameters) (r : GrowthRecord) (lengths : Bool) (count : ℕ) (x : Report) (a : Refusal) → refusal_number a ≡ tray_refusal p r lengths → refusal_number a ≡ report_refusal p r lengths count x
unfolding report_refusal
report-turned p r lengths count x a e = rw (← e) (first-is (refusal_number a) _ (numbered a))

pub lengths-are : (places count n : ℕ) → tray_lengths places count n ≡ true → (places ≡ 256) × ((n ≡ 32) × (count ≤ 256))
unfolding tray_lengths
lengths-are places count n e =
    let one = and-true (eqb places 256) (eqb n 32 && leb count 256) e in
    let two = and-true (eqb n 32) (leb count 256) one.1 in
    (eqb-true places 256 one.0, (eqb-true n 32 two.0, leb-true count 256 two.1))

below-limit : (t : Bool) (n : ℕ) → 1 ≤ n → unless t n ≡ 0 → t ≡ true
below-limit true n h e = refl
below-limit false n h e = absurd (omega (arith, h, e))

pub report-admitted : (p : Parameters) (r : GrowthRecord) (places count n : ℕ) (x : Report) → report_refusal p r (tray_lengths places count n) count x ≡ 0
    → (valid_multiplier p.multiplier ≡ true) × ((n ≡ 32) × (count < 256))
unfolding report_refusal
report-admitted p r places count n x e =
    let one = first-none (tray_refusal p r (tray_lengths places count n)) _ e in
    let two = first-none (unless (valid_number x.number) 3) _ one.1 in
    let three = first-none (unless (is_removal x || valid_position (reported_position x)) 4) _ two.1 in
    let well = tray_refusal-none p r (tray_lengths places count n) one.0 in
    (well.0, ((lengths-are places count n well.1).1.0, ltb-true count 256 (below-limit (ltb count 256) 14 (omega arith) three.1)))

-- The combined look-up past its tests

pub screen_turned : (p : Parameters) (r : GrowthRecord) (lengths : Bool) (k : ℕ) (a : Refusal) → refusal_number a ≡ tray_refusal p r lengths → refusal_number a ≡ screen_refusal p r lengths k
unfolding screen_refusal
screen_turned p r lengths k a e = rw (← e) (first-is (refusal_number a) _ (numbered a))

pub screen_admitted : (p : Parameters) (r : GrowthRecord) (file : Bool) (places count n : ℕ) → tray_refusal p r (file && tray_lengths places count n) ≡ 0
    → (valid_multiplier p.multiplier ≡ true) × ((n ≡ 32) × (count ≤ places))
screen_admitted p r file places count n e =
    let well = tray_refusal-none p r (file && tray_lengths places count n) e in
    let sizes = lengths-are places count n (and-true file (tray_lengths places count n) well.1).1 in
    (well.0, (sizes.1.0, omega (arith, sizes.0, sizes.1.1)))

pub none-scanned : (n : ℕ) (passed : Bool) (count : ℕ) → 1 ≤ n → 0 ≡ scanned n passed count
unfolding scanned
none-scanned n passed count h = rw (ne_eqb n 0 (λ e. omega (arith, h, e)))
