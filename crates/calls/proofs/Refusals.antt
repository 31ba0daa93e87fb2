-- Refusals 1 and 2 of the definitions, from the tests in code; and what is known once they are passed.
use mathlib.Core.Path.{◌≡◌, refl, sym, ap, ◌∙◌}
use mathlib.Core.Bool.{Bool, true, false, ◌&&◌}
use Prim.Native.Nat.{ℕ, ◌*◌, ◌≤◌}
use native.Mathlib.Nat.{mul-le-mul}
use native.Mathlib.Omega.{arith}
use lib.ListN.{length}
use borrow.Author.Tests.{eqb-true}
use Rattle.hashing.specs.declared.Parameters.{Parameters}
use Rattle.hashing.specs.declared.Growth.{Growth}
use Rattle.hashing.specs.Limits.{valid_parameters, valid_growth}
use Rattle.hashing.proofs.Bounds.{limits, both}
use Rattle.placement.specs.File.{File}
use Rattle.placement.specs.Shape.{Sized}
use Rattle.placement.specs.Ready.{Pooled}
use Rattle.placement.proofs.Prepared.{ready, pool-ready}
use Rattle.calls.specs.declared.answers.Refusal.{Refusal}
use Rattle.calls.specs.declared.answers.Refusal.TheVariants.{
  BadParameters,
  BadLength,
  BadNumber,
  BadPosition,
  Damaged,
  Held,
  NotHeld,
  Full,
  Ungrown,
  BadHeader,
  BadRows,
  ShortOutput,
  NotOwner,
  TrayFull,
  BadContents,
  OutOfTurn,
}
use Rattle.std.specs.Prelude.{Result, Ok, Err}
use Rattle.calls.specs.Answers.{Answer, After, Pool, Leaves, refusal_number, refused_by}
use Rattle.calls.specs.Shape.{admission_number}
use Rattle.calls.specs.Calls.{unless, or_else, unlent, guarded, unchanged, file_fits_lem, pool_fits_lem}
use Rattle.calls.specs.Shape.{Admitted}

pub bad_state : (p : Parameters) (g : Growth) (lengths : Bool) → valid_parameters p && valid_growth p g ≡ false → unlent p g lengths ≡ 1
unfolding unlent
bad_state p g lengths e = rw e

pub bad_lengths : (p : Parameters) (g : Growth) (lengths : Bool) → valid_parameters p && valid_growth p g ≡ true → lengths ≡ false → unlent p g lengths ≡ 2
unfolding unlent
bad_lengths p g lengths e l = rw (e, l)

pub well-lent : (p : Parameters) (g : Growth) (lengths : Bool) → valid_parameters p && valid_growth p g ≡ true → lengths ≡ true → unlent p g lengths ≡ 0
unfolding unlent
well-lent p g lengths e l = rw (e, l)

-- the product of two numbers within the limits of pages and places
pub items-most : (p : Parameters) → valid_parameters p ≡ true → p.pages * p.places ≤ 32768
items-most p v = mul-le-mul (limits p v).pages_most (limits p v).places_most

pub sized : (p : Parameters) (f : File) → file_fits_lem p f ≡ true → Sized p.places p.pages f
unfolding file_fits_lem
sized p f e =
    let one = both _ _ e in
    let two = both _ _ one.1 in
    let three = both _ _ two.1 in
    record {
      of_separators = eqb-true _ _ one.0;
      of_numbers = eqb-true _ _ two.0;
      of_words_lem = eqb-true _ _ three.0;
      of_owners = eqb-true _ _ three.1;
    }

pub pool-sized : (p : Parameters) (pool : Pool) → pool_fits_lem p pool ≡ true → (length pool.numbers ≡ p.pages * p.places) × ((length pool.words ≡ p.pages * p.places) × (length pool.owners ≡ p.pages * p.places))
unfolding pool_fits_lem
pool-sized p pool e =
    let t = both _ _ e in
    let u = both _ _ t.1 in
    (eqb-true _ _ t.0, (eqb-true _ _ u.0, eqb-true _ _ u.1))

-- a call that answers a and leaves f and pool
pub leaves : (after : After) (a : Answer) (g : Growth) (f : File) (pool : Pool) → after ≡ record { answer = a; growth = g; file = f; pool = pool } → Leaves after a f pool
leaves after a g f pool e =
    record {
      answers = sym (ap (λ (x : After). x.answer) e);
      files = sym (ap (λ (x : After). x.file) e);
      pools = sym (ap (λ (x : After). x.pool) e);
    }

-- .. and the growth state g
pub made_by : (after : After) (a : Answer) (g : Growth) (f : File) (pool : Pool) → after ≡ record { answer = a; growth = g; file = f; pool = pool } → Leaves after a f pool × (g ≡ after.growth)
made_by after a g f pool e = (leaves after a g f pool e, sym (ap (λ (x : After). x.growth) e))

-- Refusals 1 and 2 by the guard that the calls begin with

pub unlent-most : (p : Parameters) (g : Growth) (lengths : Bool) → unlent p g lengths ≤ 2
unfolding unlent
unlent-most p g lengths = go (valid_parameters p && valid_growth p g) lengths
  where
    go : (s t : Bool) → or_else (unless s 1) (unless t 2) ≤ 2
    go true true = omega arith
    go true false = omega arith
    go false t = omega arith

pub unlent-facts : (p : Parameters) (g : Growth) (lengths : Bool) → unlent p g lengths ≡ 0 → (valid_parameters p && valid_growth p g ≡ true) × (lengths ≡ true)
unfolding unlent
unlent-facts p g lengths = go (valid_parameters p && valid_growth p g) lengths
  where
    go : (s t : Bool) → or_else (unless s 1) (unless t 2) ≡ 0 → (s ≡ true) × (t ≡ true)
    go true true e = (refl, refl)
    go true false e = absurd (omega arith)
    go false t e = absurd (omega arith)

pub refusal_is : (p : Parameters) (g : Growth) {fits lengths : Bool} {a : Result (Unit {0}) Refusal} {r : Refusal} → admission_number a ≡ unlent p g fits → fits ≡ lengths → a ≡ Err r → refusal_number r ≡ unlent p g lengths
refusal_is p g e l t = sym (ap admission_number t) ∙ (e ∙ ap (unlent p g) l)

pub none_is : (p : Parameters) (g : Growth) {fits lengths : Bool} {a : Result (Unit {0}) Refusal} → admission_number a ≡ unlent p g fits → fits ≡ lengths → a ≡ Ok tt → unlent p g lengths ≡ 0
none_is p g e l t = sym (ap (unlent p g) l) ∙ (sym e ∙ ap admission_number t)

module _ (g : Growth) (f : File) (pool : Pool) (after : After) where
  away : (r : Refusal) (m : ℕ) → refusal_number r ≤ 2
      → (guarded g f pool (refusal_number r) after ≡ unchanged g f pool (refused_by r 0)) × (guarded g f pool (or_else (refusal_number r) m) after ≡ unchanged g f pool (refused_by r 0))
  unfolding refused_by
  away BadParameters m h = (refl, refl)
  away BadLength m h = (refl, refl)
  away BadNumber m h = absurd (omega arith)
  away BadPosition m h = absurd (omega arith)
  away (Damaged page) m h = absurd (omega arith)
  away Held m h = absurd (omega arith)
  away NotHeld m h = absurd (omega arith)
  away Full m h = absurd (omega arith)
  away Ungrown m h = absurd (omega arith)
  away BadHeader m h = absurd (omega arith)
  away BadRows m h = absurd (omega arith)
  away ShortOutput m h = absurd (omega arith)
  away NotOwner m h = absurd (omega arith)
  away TrayFull m h = absurd (omega arith)
  away BadContents m h = absurd (omega arith)
  away OutOfTurn m h = absurd (omega arith)

  pub turned-away : (p : Parameters) (lengths : Bool) (r : Refusal) → refusal_number r ≡ unlent p g lengths → guarded g f pool (unlent p g lengths) after ≡ unchanged g f pool (refused_by r 0)
  turned-away p lengths r e = rw (← e) (away r 0 (rw e (unlent-most p g lengths))).0

  -- whatever else the call would have been refused with
  pub turned-away-first : (p : Parameters) (lengths : Bool) (r : Refusal) (m : ℕ) → refusal_number r ≡ unlent p g lengths
      → guarded g f pool (or_else (unlent p g lengths) m) after ≡ unchanged g f pool (refused_by r 0)
  turned-away-first p lengths r m e = rw (← e) (away r m (rw e (unlent-most p g lengths))).1

-- what a call has past the guard
pub admitted : (p : Parameters) (g : Growth) (f : File) → unlent p g (file_fits_lem p f) ≡ 0 → Admitted p g f
admitted p g f e =
    let t = unlent-facts p g (file_fits_lem p f) e in
    let v = both _ _ t.0 in
    ready refl v.0 v.1 (sized p f t.1)

pub admitted-pool : (p : Parameters) (g : Growth) (f : File) (pool : Pool) → unlent p g (file_fits_lem p f && pool_fits_lem p pool) ≡ 0 → Admitted p g f × Pooled p pool.numbers pool.words pool.owners
admitted-pool p g f pool e =
    let t = unlent-facts p g (file_fits_lem p f && pool_fits_lem p pool) e in
    let v = both _ _ t.0 in
    let l = both _ _ t.1 in
    (ready refl v.0 v.1 (sized p f l.0), pool-ready (pool-sized p pool l.1))
