-- `own_stars::entering::enter_own` meets its contract.
use mathlib.Core.Path.{◌≡◌, ◌∙◌}
use native.Mathlib.Omega.{arith}
use Rattle.own_stars.proofs.Placing.{rolling_begun, rolling_next, rolling_stops}
use Rattle.own_stars.proofs.entering.enter_own.Goals as goal

pub loop-i-init : goal.loop-i-init
loop-i-init c =
    record { most = c.requires.entered_below.begun; sized = c.requires.ready.sized; pooled = c.requires.pooled; laid_out = λ w l o. o }

pub enter_place-requires : goal.enter_place-requires
enter_place-requires c =
    let test = c.loop-i-test.true in record {
      ready = record { homing = c.requires.ready.homing; sized = c.loop-i.invariant.sized };
      pooled = c.loop-i.invariant.pooled;
      entered_below = rolling_begun _ _ _ _ _ _ _ _ _ _ c.requires.ready.homing.valid c.requires.ready.homing.growth c.requires.entered_below c.loop-i.invariant test;
      place_lt_places = test;
    }

pub returns-then-not-enter_place : goal.returns-then-not-enter_place
returns-then-not-enter_place c =
    rolling_stops _ _ _ _ _ _ _ _ _ _ c.requires.ready.homing.valid c.requires.ready.homing.growth c.requires.entered_below c.loop-i.invariant c.loop-i-test.true _ _ c.enter_place.ensures c.if-not-enter_place.true

pub loop-i-preserved : goal.loop-i-preserved
loop-i-preserved c =
    let done = c.enter_place in
    let kept = done.auto in
    rolling_next _ _ _ _ _ _ _ _ _ _ c.requires.ready.homing.valid c.requires.ready.homing.growth c.requires.entered_below c.loop-i.invariant c.loop-i-test.true _ _ done.ensures c.if-not-enter_place.false _ _ _
    (record { of_numbers = kept.pool ∙ c.loop-i.invariant.pooled.of_numbers; of_words_lem = kept.waiting ∙ c.loop-i.invariant.pooled.of_words_lem; of_owners = kept.poolowners ∙ c.loop-i.invariant.pooled.of_owners })

pub returns : goal.returns
returns c w listed laid =
    let end : c.loop-i.i ≡ c.args.geometry.parameters.places = omega arith in
    record { most = omega arith; laid_out = rw end at (c.loop-i.invariant.laid_out w listed laid); stopped = λ h. absurd (omega arith) }
