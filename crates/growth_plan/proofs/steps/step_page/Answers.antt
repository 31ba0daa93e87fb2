use mathlib.Core.Path.{sym, ◌∙◌}
use Prim.Native.Nat.{◌+◌, ◌*◌, ◌≤◌}
use native.Mathlib.Nat.{mul-le-mul_right, suc-mul}
use native.Mathlib.Omega.{arith}
use Rattle.hashing.proofs.Bounds.{Limits, limits}
use Rattle.placement.specs.Hash.{lent}
use Rattle.growth_plan.proofs.Stepped.{unsound-stepped, overflows_stepped, on-stepped}
use Rattle.growth_plan.proofs.steps.step_page.Goals as goal

-- the page's items
-- from the plan on
pub plan_step-requires : goal.plan_step-requires
plan_step-requires c =
    let bounds : Limits c.args.geometry.parameters = limits c.args.geometry.parameters c.requires.ready.homing.valid in
    record {
      ready = c.requires.ready;
      pool_len = c.requires.pooled.of_numbers;
      waiting_len = c.requires.pooled.of_words_lem;
      movable = c.requires.movable;
      pages_in_bounds = (omega (arith, bounds.pages_most), c.requires.step_lt_pages);
    }

pub write_planned-requires : goal.write_planned-requires
write_planned-requires c =
    let bounds : Limits c.args.geometry.parameters = limits c.args.geometry.parameters c.requires.ready.homing.valid in
    let inside : c.args.step * c.args.geometry.parameters.places + c.args.geometry.parameters.places ≤ c.args.geometry.parameters.pages * c.args.geometry.parameters.places = rw (← suc-mul c.args.step c.args.geometry.parameters.places) (mul-le-mul_right c.args.geometry.parameters.places c.requires.step_lt_pages) in
    let l = bounds in
    let size = c.requires.sized in
    let pool = c.requires.pooled in
    let kept = c.plan_step.auto in record {
      places_bound = (l.places_most, omega (arith, l.pages_most, c.requires.step_lt_pages));
      step_in_bounds = (omega (arith, size.of_separators, c.requires.step_lt_pages), omega (arith, l.pages_most, c.requires.step_lt_pages, kept.planned));
      places_in_bounds = (omega (arith, inside, size.of_numbers), omega (arith, inside, pool.of_numbers, kept.pool));
      places_in_bounds_2 = (omega (arith, inside, size.of_words_lem), omega (arith, inside, pool.of_words_lem, kept.waiting));
      places_in_bounds_3 = (omega (arith, inside, size.of_owners), omega (arith, inside, pool.of_owners));
    }

pub returns-in-Unsound : goal.returns-in-Unsound
returns-in-Unsound c =
    let answer = sym c.in-Unsound.is ∙ c.plan_step.ensures.value in
    record {
      value = answer;
      secondowners_value = unsound-stepped _ _ _ (lent c.args.separators.now c.args.numbers.now c.args.words.now c.args.owners.now) (lent c.args.secondseparators.now c.args.secondnumbers.now c.args.secondwords.now c.args.secondowners.now) c.args.step _ c.in-Unsound.bad answer;
    }

pub returns-in-Overflows : goal.returns-in-Overflows
returns-in-Overflows c =
    let answer = sym c.in-Overflows.is ∙ c.plan_step.ensures.value in
    record {
      value = answer;
      secondowners_value = overflows_stepped _ _ _ (lent c.args.separators.now c.args.numbers.now c.args.words.now c.args.owners.now) (lent c.args.secondseparators.now c.args.secondnumbers.now c.args.secondwords.now c.args.secondowners.now) c.args.step _ answer;
    }

pub returns-in-On : goal.returns-in-On
returns-in-On c =
    let y = c.write_planned.ensures in
    let answer = sym c.in-On.is ∙ c.plan_step.ensures.value in record {
      value = answer;
      secondowners_value = on-stepped _ _ _ (lent c.args.separators.now c.args.numbers.now c.args.words.now c.args.owners.now) (lent c.args.secondseparators.now c.args.secondnumbers.now c.args.secondwords.now c.args.secondowners.now) c.args.step _ c.in-On.new c.requires.ready.sized c.requires.step_lt_pages answer
          _ _ (c.plan_step.ensures.plans_step c.in-On.new c.in-On.is) _ _ _ _ y.secondseparators_after y.secondnumbers_after y.secondwords_after y.secondowners_after;
    }
