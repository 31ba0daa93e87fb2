-- `own_stars::taking::take_own` meets its contract.
use mathlib.Core.Path.{◌≡◌, ◌∙◌}
use native.Mathlib.Omega.{arith}
use Rattle.hashing.proofs.Bounds.{limits}
use Rattle.own_stars.proofs.Placing.{emptying_none, emptying_same, emptying_takes, emptying_next}
use Rattle.own_stars.proofs.taking.take_own.Goals as goal

pub loop-i-init : goal.loop-i-init
loop-i-init c = emptying_none _ _ _ _ _ _ _ c.requires.ready.sized c.requires.pooled

pub bounds-own-i : goal.bounds-own-i
bounds-own-i c = omega (arith, (limits _ c.requires.ready.homing.valid).places_most)

pub take_one-requires : goal.take_one-requires
take_one-requires c =
    record {
      ready = record { homing = c.requires.ready.homing; sized = c.loop-i.invariant.sized };
      pooled = c.loop-i.invariant.pooled;
      takeable = emptying_takes _ _ _ _ _ _ _ _ _ _ c.requires.ready.homing.valid c.requires.ready.homing.growth c.requires.takeable_own c.loop-i.invariant (omega arith) c.if-number-ne0.true;
    }

pub loop-i-preserved-then-number-ne0 : goal.loop-i-preserved-then-number-ne0
loop-i-preserved-then-number-ne0 c =
    let took = c.take_one in
    let kept = took.auto in
    let pooled = c.loop-i.invariant.pooled in
    emptying_next _ _ _ _ _ _ _ _ _ _ c.requires.ready.homing.valid c.requires.ready.homing.growth c.requires.takeable_own c.loop-i.invariant (omega arith) c.if-number-ne0.true _ _ _ _ took.ensures
    (record { of_numbers = kept.pool ∙ pooled.of_numbers; of_words_lem = kept.waiting ∙ pooled.of_words_lem; of_owners = kept.poolowners ∙ pooled.of_owners })

pub loop-i-preserved : goal.loop-i-preserved
loop-i-preserved c =
    emptying_same _ _ _ _ _ _ _ _ _ _ c.requires.ready.homing.valid c.requires.ready.homing.growth c.requires.takeable_own c.loop-i.invariant (omega arith) c.if-number-ne0.false

pub returns : goal.returns
returns c w listed laid =
    let ends : c.loop-i.i ≡ 0 = omega arith in
    rw ends at (c.loop-i.invariant.laid_out w listed laid)
