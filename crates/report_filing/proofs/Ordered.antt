-- "Filing works through the reports in order": those filed, and what is still to be filed.
use mathlib.Core.Path.{◌≡◌, refl, sym, ap, ◌∙◌}
use mathlib.Core.Bool.{true, false}
use mathlib.Core.List.{List, [], ◌∷◌}
use Prim.Native.Nat.{ℕ, suc, ◌+◌, ◌≤◌, ◌<◌}
use native.Mathlib.Nat.{zero-add, add-zero, add-suc, suc-add}
use native.Mathlib.Numerals.{add-one}
use native.Mathlib.Omega.{arith}
use lib.Dec.{eqb}
use lib.ListN.{length, take, drop, get_or, drop_of_length-le}
use lib.Seq.{drop-cons, get_or-take, length-take-le}
use borrow.Author.Tests.{eq-eqb, ne_eqb}
use Rattle.hashing.specs.declared.Parameters.{Parameters}
use Rattle.placement.specs.File.{File}
use Rattle.placement.specs.Shape.{Sized}
use Rattle.placement.specs.Ready.{Pooled}
use Rattle.calls.specs.declared.answers.Answer.{Answer}
use Rattle.calls.specs.declared.answers.Refusal.{Refusal}
use Rattle.calls.specs.declared.answers.Placed.{Placed}
use Rattle.calls.specs.declared.answers.Placed.TheVariants.{On, Refused}
use Rattle.calls.specs.declared.records.GrowthRecord.{GrowthRecord}
use Rattle.calls.specs.Answers.{Pool, placed, refused_by, refusal_number, spotted, pooled, cleared}
use Rattle.calls.specs.Shape.{Stores}
use Rattle.calls.specs.Calls.{pool_fits_lem}
use Rattle.calls.proofs.Numbers.{numbered}
use Rattle.reports.specs.declared.Report.{Report}
use Rattle.reports.specs.Filing.{report_filed, Filed, one_more_lem, filed_from}
use Rattle.reports.proofs.Trying.{cleared-fits}
use Rattle.report_filing.specs.Filing.{Files}
use Rattle.report_filing.specs.declared.filing.Filed.{Filed as Told}

-- i reports more were filed before
abbrev pub further : ℕ → Filed → Filed
further i d = record { filed = i + d.filed; answer = d.answer; file = d.file; rest = d.rest }

one_further : (i : ℕ) (d : Filed) → further i (one_more_lem d) ≡ further (suc i) d
one_further i d = rw (add-suc i d.filed, suc-add i d.filed)

accepted-goes-on : (page place : ℕ) → eqb (placed (On page place)).refusal 0 ≡ true
unfolding placed spotted
accepted-goes-on page place = refl

refused-stops : (refusal : Refusal) (place : ℕ) → eqb (placed (Refused refusal place)).refusal 0 ≡ false
unfolding placed refused_by spotted
refused-stops refusal place = ne_eqb (refusal_number refusal) 0 (λ e. omega (arith, numbered refusal))

module _ (p : Parameters) (r : GrowthRecord) (pool : Pool) (f : File) (x : Report) (xs : List Report) where
  one-filed : (f' : File) → eqb (report_filed p r f pool x).answer.refusal 0 ≡ true → f' ≡ (report_filed p r f pool x).file
      → filed_from p r f pool (x ∷ xs) ≡ one_more_lem (filed_from p r f' pool xs)
  unfolding filed_from
  one-filed f' e l = rw (e, l)

  one-refused : eqb (report_filed p r f pool x).answer.refusal 0 ≡ false
      → filed_from p r f pool (x ∷ xs) ≡ record { filed = 0; answer = (report_filed p r f pool x).answer; file = (report_filed p r f pool x).file; rest = x ∷ xs }
  unfolding filed_from
  one-refused e = rw e

-- a pool of these lengths, cleared
pub cleared-pool : {p : Parameters} {numbers words owners : List ℕ} → Pooled p numbers words owners → pool_fits_lem p (cleared (pooled numbers words owners)) ≡ true
cleared-pool {p} {numbers} {words} {owners} t = cleared-fits p (pooled numbers words owners) ∙ fits
  where
    fits : pool_fits_lem p (pooled numbers words owners) ≡ true
    fits = unfold pool_fits_lem in rw (eq-eqb _ _ t.of_numbers, eq-eqb _ _ t.of_words_lem, eq-eqb _ _ t.of_owners)

-- what is filed, by an equation for the definition
files : (d e : Filed) (t : Told) (l : File) → d ≡ e → t.filed ≡ e.filed → placed t.answer ≡ e.answer → l ≡ e.file → Files d t l
files d e t l is n a m =
    record {
      filed = n ∙ sym (ap (λ (y : Filed). y.filed) is);
      answers = a ∙ sym (ap (λ (y : Filed). y.answer) is);
      files = m ∙ sym (ap (λ (y : Filed). y.file) is);
    }

module _ (p : Parameters) (r : GrowthRecord) (pool : Pool) (f₀ : File) (xs : List Report) where
  -- the first i are filed, and the file is f
  unfoldable pub Ordered : ℕ → File → Type 0
  Ordered i f = filed_from p r f₀ pool xs ≡ further i (filed_from p r f pool (drop i xs))

  pub ordered-none : Ordered 0 f₀
  unfolding Ordered
  ordered-none = rw (zero-add (filed_from p r f₀ pool xs).filed)

-- the loop over the first `count` reports of a list, with what the next report needs
pub record Ongoing (p : Parameters) (r : GrowthRecord) (pool : Pool) (f₀ : File) (reports : List Report) (count i : ℕ) (f : File) (left : Pool) : Type 0 where
  pub long : length reports ≡ 256
  pub most : count ≤ 256
  pub ordered : Ordered p r pool f₀ (take count reports) i f
  pub sized : Sized p.places p.pages f
  pub pooled : Pooled p left.numbers left.words left.owners

module _ (p : Parameters) (r : GrowthRecord) (pool : Pool) (f₀ : File) (reports : List Report) (count i : ℕ) (f : File) (left : Pool)
    (inv : Ongoing p r pool f₀ reports count i f left) where
  abbrev xs : List Report
  xs = take count reports

  length-is : length xs ≡ count
  length-is = length-take-le count reports (omega (arith, inv.most, inv.long))

  pub ordered-all : count ≤ i → i ≤ count → Files (filed_from p r f₀ pool xs) (record { filed = count; answer = On 0 0 }) f
  unfolding Ordered filed_from placed
  ordered-all h upto =
      files _ (further i (filed_from p r f pool [])) _ _
      (inv.ordered ∙ ap (λ (l : List Report). further i (filed_from p r f pool l)) (drop_of_length-le xs {i = i} (rw length-is h)))
      (omega arith)
      refl
      refl

  module _ (h : i < count) (d : Report) where
    abbrev x : Report
    x = get_or reports i d

    tried : filed_from p r f₀ pool xs ≡ further i (filed_from p r f pool (x ∷ drop (suc i) xs))
    unfolding Ordered
    tried =
        inv.ordered
        ∙ ap (λ (l : List Report). further i (filed_from p r f pool l))
        (drop-cons xs i d (rw length-is h) ∙ ap (λ (y : Report). y ∷ drop (suc i) xs) (get_or-take count reports i d h))

    pub ordered-more : (page place : ℕ) (answer : Placed) (f' : File) → answer ≡ On page place → Stores (report_filed p r f pool x) (placed answer) f'
        → Ordered p r pool f₀ xs (i + 1) f'
    unfolding Ordered
    ordered-more page place answer f' e s =
        rw (add-one i)
        (tried
        ∙ ap (further i)
        (one-filed p r pool f x (drop (suc i) xs) f' (ap (λ (a : Answer). eqb a.refusal 0) (sym s.answers ∙ ap placed e) ∙ accepted-goes-on page place) s.files)
        ∙ one_further i (filed_from p r f' pool (drop (suc i) xs)))

    pub ordered-stop : (refusal : Refusal) (place : ℕ) (answer : Placed) (f' : File) → answer ≡ Refused refusal place
        → Stores (report_filed p r f pool x) (placed answer) f' → Files (filed_from p r f₀ pool xs) (record { filed = i; answer = Refused refusal place }) f'
    ordered-stop refusal place answer f' e s =
        files _ (further i (record { filed = 0; answer = (report_filed p r f pool x).answer; file = (report_filed p r f pool x).file; rest = x ∷ drop (suc i) xs })) _ _
        (tried
        ∙ ap (further i) (one-refused p r pool f x (drop (suc i) xs) (ap (λ (a : Answer). eqb a.refusal 0) (sym s.answers ∙ ap placed e) ∙ refused-stops refusal place)))
        (sym (add-zero i))
        (sym (ap placed e) ∙ s.answers)
        s.files
