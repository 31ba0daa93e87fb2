-- The definitions under a growth record, by the tests in code: refused by the record, or what the call does.
use mathlib.Core.Path.{◌≡◌, refl, sym, ap, ◌∙◌}
use mathlib.Core.Bool.{Bool, true, false, cond, false≢true}
use Prim.Native.Nat.{ℕ, zero, suc}
use native.Mathlib.Omega.{arith}
use lib.Dec.{eqb, ltb}
use borrow.Author.Tests.{eqb-true}
use Rattle.hashing.specs.declared.Parameters.{Parameters}
use Rattle.hashing.specs.declared.Growth.{Growth}
use Rattle.placement.specs.File.{File}
use Rattle.std.specs.Prelude.{Result, Ok, Err}
use Rattle.calls.specs.declared.answers.Answer.{Answer}
use Rattle.calls.specs.declared.answers.Grown.{Grown}
use Rattle.calls.specs.declared.answers.Refusal.{Refusal}
use Rattle.calls.specs.declared.answers.Refusal.TheVariants.{
  BadParameters,
  BadLength,
  BadNumber,
  BadPosition,
  Damaged,
  Held,
  NotHeld,
  Full,
  Ungrown,
  BadHeader,
  BadRows,
  ShortOutput,
  NotOwner,
  TrayFull,
  BadContents,
  OutOfTurn,
}
use Rattle.calls.specs.declared.records.GrowthRecord.{GrowthRecord}
use Rattle.calls.specs.declared.records.Recorded.{Recorded}
use Rattle.calls.specs.Answers.{After, Pool, Leaves, refusal_number, refused_by, refused, cleared, placed}
use Rattle.calls.specs.Shape.{admission_number}
use Rattle.calls.specs.Calls.{unless, or_else, unlent, guarded, unchanged}
use Rattle.calls.specs.Records.{valid_steps, recorded, unless_open, record_after, closed_record}
use Rattle.calls.proofs.Refusals.{leaves, turned-away}
use Rattle.call_guard.specs.Turn.{at_rest_lem, record_refusal, TurnedAway, restored}

-- The record by itself

rest-facts : (growing : Bool) (steps : ℕ) → cond growing false (eqb steps 0) ≡ true → (growing ≡ false) × (steps ≡ 0)
rest-facts true steps e = absurd (false≢true e)
rest-facts false steps e = (refl, eqb-true steps 0 e)

-- at rest it is a closed one
pub rest-closed : (r : GrowthRecord) → at_rest_lem r ≡ true → (r.growing ≡ false) × (r.steps ≡ 0)
unfolding at_rest_lem
rest-closed r e = rest-facts r.growing r.steps e

pub rest-valid : (p : Parameters) (r : GrowthRecord) → at_rest_lem r ≡ true → valid_steps p r ≡ true
unfolding at_rest_lem valid_steps
rest-valid p r = go r.growing
  where
    go : (t : Bool) → cond t false (eqb r.steps 0) ≡ true → cond t (ltb r.steps p.pages) (eqb r.steps 0) ≡ true
    go true e = absurd (false≢true e)
    go false e = e

-- a valid one that is not at rest has a growth open
pub open_else : (p : Parameters) (r : GrowthRecord) → at_rest_lem r ≡ false → valid_steps p r ≡ true → r.growing ≡ true
unfolding at_rest_lem valid_steps
open_else p r = go r.growing
  where
    go : (t : Bool) → cond t false (eqb r.steps 0) ≡ false → cond t (ltb r.steps p.pages) (eqb r.steps 0) ≡ true → t ≡ true
    go true e v = refl
    go false e v = absurd (false≢true (sym e ∙ v))

-- Refusals 1 and 2 under a record

pub bad_steps : (p : Parameters) (r : GrowthRecord) (lengths : Bool) → valid_steps p r ≡ false → record_refusal p r lengths ≡ 1
unfolding record_refusal
bad_steps p r lengths e = rw e

pub good-steps : (p : Parameters) (r : GrowthRecord) (lengths : Bool) → valid_steps p r ≡ true → record_refusal p r lengths ≡ unlent p r.state lengths
unfolding record_refusal
good-steps p r lengths e = rw e

pub steps_good : (p : Parameters) (r : GrowthRecord) (lengths : Bool) → record_refusal p r lengths ≡ 0 → valid_steps p r ≡ true
unfolding record_refusal
steps_good p r lengths = go (valid_steps p r)
  where
    go : (t : Bool) → or_else (unless t 1) (unlent p r.state lengths) ≡ 0 → t ≡ true
    go true e = refl
    go false e = absurd (omega arith)

first-refusal : (a : Refusal) → refusal_number a ≡ 1 → refused_by a 0 ≡ refused 1 0
unfolding refused_by
first-refusal BadParameters h = refl
first-refusal BadLength h = absurd (omega arith)
first-refusal BadNumber h = absurd (omega arith)
first-refusal BadPosition h = absurd (omega arith)
first-refusal (Damaged page) h = absurd (omega arith)
first-refusal Held h = absurd (omega arith)
first-refusal NotHeld h = absurd (omega arith)
first-refusal Full h = absurd (omega arith)
first-refusal Ungrown h = absurd (omega arith)
first-refusal BadHeader h = absurd (omega arith)
first-refusal BadRows h = absurd (omega arith)
first-refusal ShortOutput h = absurd (omega arith)
first-refusal NotOwner h = absurd (omega arith)
first-refusal TrayFull h = absurd (omega arith)
first-refusal BadContents h = absurd (omega arith)
first-refusal OutOfTurn h = absurd (omega arith)

-- Calls that read

module _ (p : Parameters) (r : GrowthRecord) (f : File) (pool : Pool) (after : After) where
  pub misrecorded : valid_steps p r ≡ false → recorded p r f pool after ≡ unchanged r.state f pool (refused 1 0)
  misrecorded e = rw e

  pub well-recorded : valid_steps p r ≡ true → recorded p r f pool after ≡ after
  well-recorded e = rw e

-- The growth state after a call with nothing open

pub restored_by : {after : After} {grown : Grown} {made : Recorded} {file : File} {left : Pool} → made ≡ restored grown → Leaves after (placed grown.answer) file left → grown.growth ≡ after.growth
    → Leaves after (placed made.answer) file left × (made.growth ≡ closed_record after.growth)
restored_by e l g = rw e (l, ap (λ (x : Growth). closed_record x) g)

-- Calls that write

-- the lengths that were measured are those of the definition
pub measured : (p : Parameters) (r : GrowthRecord) (f : File) (pool left : Pool) (a : Answer) {fits lengths : Bool} → fits ≡ lengths → TurnedAway p r fits f pool a left → TurnedAway p r lengths f pool a left
measured p r f pool left a e t = rw (e) at t

module _ (p : Parameters) (r : GrowthRecord) (lengths : Bool) (f : File) (pool : Pool) (after : After) where
  pub in_turn_lem : at_rest_lem r ≡ true → unless_open p r lengths f pool after ≡ after
  in_turn_lem e = rw (rest-valid p r e, (rest-closed r e).0)

  pub not_admitted : at_rest_lem r ≡ false → (a : Refusal) → refusal_number a ≡ record_refusal p r lengths → unless_open p r lengths f pool after ≡ unchanged r.state f pool (refused_by a 0)
  not_admitted rest a e = go (valid_steps p r) refl
    where
      go : (t : Bool) → valid_steps p r ≡ t → unless_open p r lengths f pool after ≡ unchanged r.state f pool (refused_by a 0)
      go true v = rw (v, open_else p r rest v) (turned-away r.state f pool _ p lengths a (e ∙ good-steps p r lengths v))
      go false v = rw (v, first-refusal a (e ∙ bad_steps p r lengths v))

  pub not_in_turn : at_rest_lem r ≡ false → record_refusal p r lengths ≡ 0 → unless_open p r lengths f pool after ≡ unchanged r.state f (cleared pool) (refused 16 0)
  not_in_turn rest e =
      let v = steps_good p r lengths e in
      rw (v, open_else p r rest v, sym (good-steps p r lengths v) ∙ e)

  pub turned : {a : Result (Unit {0}) Refusal} {fits : Bool} {x : Refusal} → at_rest_lem r ≡ false → admission_number a ≡ record_refusal p r fits → fits ≡ lengths → a ≡ Err x → Leaves (unless_open p r lengths f pool after) (refused_by x 0) f pool
  turned rest e l t = leaves _ _ _ _ _ (not_admitted rest _ (sym (ap admission_number t) ∙ (e ∙ ap (record_refusal p r) l)))

  pub held_up : {a : Result (Unit {0}) Refusal} {fits : Bool} (left : Pool) → at_rest_lem r ≡ false → admission_number a ≡ record_refusal p r fits → fits ≡ lengths → a ≡ Ok tt → left ≡ cleared pool
      → Leaves (unless_open p r lengths f pool after) (refused_by OutOfTurn 0) f left
  unfolding refused_by
  held_up left rest e l t zeroed =
      let is = not_in_turn rest (sym (ap (record_refusal p r) l) ∙ (sym e ∙ ap admission_number t)) in
      record {
        answers = sym (ap (λ (x : After). x.answer) is);
        files = sym (ap (λ (x : After). x.file) is);
        pools = zeroed ∙ sym (ap (λ (x : After). x.pool) is);
      }

  -- refused, the record stays
  state-stays : at_rest_lem r ≡ false → (unless_open p r lengths f pool after).growth ≡ r.state
  state-stays rest = go (valid_steps p r) refl
    where
      passes : (n : ℕ) → (guarded r.state f pool n (unchanged r.state f (cleared pool) (refused 16 0))).growth ≡ r.state
      passes zero = refl
      passes (suc n) = refl

      go : (t : Bool) → valid_steps p r ≡ t → (unless_open p r lengths f pool after).growth ≡ r.state
      go true v = rw (v, open_else p r rest v) (passes (unlent p r.state lengths))
      go false v = rw v

  pub record_stays : at_rest_lem r ≡ false → r ≡ record_after r (unless_open p r lengths f pool after)
  record_stays rest = ap (λ (g : Growth). record_after r (unchanged g f pool (refused 1 0))) (sym (state-stays rest))

  -- else it holds the growth state that the call leaves
  pub record_moves : at_rest_lem r ≡ true → closed_record after.growth ≡ record_after r (unless_open p r lengths f pool after)
  record_moves rest = rw (in_turn_lem rest, (rest-closed r rest).0, (rest-closed r rest).1)

  pub moved_by : {grown : Grown} {made : Recorded} {file : File} {left : Pool} → at_rest_lem r ≡ true → made ≡ restored grown → Leaves after (placed grown.answer) file left → grown.growth ≡ after.growth
      → Leaves (unless_open p r lengths f pool after) (placed made.answer) file left × (made.growth ≡ record_after r (unless_open p r lengths f pool after))
  moved_by rest e l g =
      let t = restored_by e l g in
      (rw (in_turn_lem rest) t.0, t.1 ∙ record_moves rest)
