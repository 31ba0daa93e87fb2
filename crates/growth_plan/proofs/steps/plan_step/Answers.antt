use mathlib.Core.Path.{◌≡◌, ◌∙◌}
use mathlib.Core.Bool.{true, false}
use native.Mathlib.Nat.{le_refl}
use native.Mathlib.Omega.{arith}
use Rattle.own_stars.proofs.Laying.{unsound-on, overflows_on}
use Rattle.hashing.specs.Limits.{valid_growth}
use Rattle.hashing.specs.Geometry.{grown}
use Rattle.placement.specs.Hash.{lent}
use Rattle.placement.specs.Shape.{homes_of}
use Rattle.reach.specs.Reach.{first_unsound_lem}
use Rattle.reach.proofs.Surveyed.{known-none}
use Rattle.growth_in_place.proofs.Whole.{none-counted}
use Rattle.growth_block.specs.Block.{IsLocal}
use Rattle.growth_block.proofs.Planned.{block-named}
use Rattle.growth_plan.proofs.PlannedGrowth.{plan_overflows, plan_fits, all_named, spacious-answer}
use Rattle.growth_plan.proofs.Growing.{next-valid, growth_refused, surveyed-all, surveyed-sound, sound-numbers, homes-stay}
use Rattle.growth_plan.proofs.steps.plan_step.Goals as goal

-- all pages are sound, and the pool holds the homes of their items
pub survey_pages-bad-requires : goal.survey_pages-bad-requires
survey_pages-bad-requires c =
    record {
      ready = c.requires.ready;
      homes_len = c.requires.pool_len;
      from_le_stop = omega arith;
      stop_le_pages = omega arith;
      known = known-none _ _ _ _ _ (le_refl _);
    }

pub returns-then-bad-pages : goal.returns-then-bad-pages
returns-then-bad-pages c =
    record {
      value = (growth_refused _ _ (lent c.args.separators.now c.args.numbers.now c.args.words.now c.args.owners.now) c.requires.ready.homing.valid c.requires.ready.sized _ _ _ c.survey_pages-bad.ensures.value c.if-bad-pages.true).0;
      plans_step = λ page e. absurd (unsound-on _ page e);
    }

pub is_local-requires : goal.is_local-requires
is_local-requires c =
    let homed : c.survey_pages-bad.new.homes ≡ homes_of c.args.geometry.parameters c.args.geometry.growth c.args.numbers.now = surveyed-all _ _ (lent c.args.separators.now c.args.numbers.now c.args.words.now c.args.owners.now) c.requires.ready.homing.valid c.requires.ready.sized _ c.survey_pages-bad.ensures.value c.if-bad-pages.false _ _ c.requires.pool_len c.survey_pages-bad.ensures.homes_after in
    let sound : let p = c.args.geometry.parameters in first_unsound_lem p c.args.geometry.growth (lent c.args.separators.now c.args.numbers.now c.args.words.now c.args.owners.now) 0 p.pages ≡ p.pages = surveyed-sound _ _ (lent c.args.separators.now c.args.numbers.now c.args.words.now c.args.owners.now) c.requires.ready.homing.valid c.requires.ready.sized _ c.survey_pages-bad.ensures.value c.if-bad-pages.false in
    record {
      homing = c.requires.ready.homing;
      growth_bound = c.requires.movable;
      step_lt_pages = c.requires.pages_in_bounds.1;
      separators_len = c.requires.ready.sized.of_separators;
      numbers_len = c.requires.ready.sized.of_numbers;
      homes_value = homed;
      none_counted = λ top. none-counted _ _ (lent c.args.separators.now c.args.numbers.now c.args.words.now c.args.owners.now) c.requires.ready.homing.valid c.requires.ready.homing.growth c.requires.ready.sized sound c.requires.movable top;
    }

-- a page planned by its block
pub plan_block-requires : goal.plan_block-requires
plan_block-requires c =
    let homed : c.survey_pages-bad.new.homes ≡ homes_of c.args.geometry.parameters c.args.geometry.growth c.args.numbers.now = surveyed-all _ _ (lent c.args.separators.now c.args.numbers.now c.args.words.now c.args.owners.now) c.requires.ready.homing.valid c.requires.ready.sized _ c.survey_pages-bad.ensures.value c.if-bad-pages.false _ _ c.requires.pool_len c.survey_pages-bad.ensures.homes_after in
    let sound : let p = c.args.geometry.parameters in first_unsound_lem p c.args.geometry.growth (lent c.args.separators.now c.args.numbers.now c.args.words.now c.args.owners.now) 0 p.pages ≡ p.pages = surveyed-sound _ _ (lent c.args.separators.now c.args.numbers.now c.args.words.now c.args.owners.now) c.requires.ready.homing.valid c.requires.ready.sized _ c.survey_pages-bad.ensures.value c.if-bad-pages.false in
    let local : IsLocal c.args.geometry.parameters c.args.geometry.growth c.args.separators.now c.args.numbers.now c.args.step = c.is_local.ensures c.if-is_local.true in
    record {
      homing = c.requires.ready.homing;
      step_bound = (local.inner, c.requires.ready.sized.of_separators);
      numbers_len = (c.requires.ready.sized.of_numbers, c.requires.waiting_len);
      pages_in_bounds = c.requires.pages_in_bounds.0;
      by_index = sound-numbers _ _ (lent c.args.separators.now c.args.numbers.now c.args.words.now c.args.owners.now) c.requires.ready.homing.valid c.requires.ready.sized sound;
      pool_value = homed;
    }

pub returns-then-is_local : goal.returns-then-is_local
returns-then-is_local c =
    let sound : let p = c.args.geometry.parameters in first_unsound_lem p c.args.geometry.growth (lent c.args.separators.now c.args.numbers.now c.args.words.now c.args.owners.now) 0 p.pages ≡ p.pages = surveyed-sound _ _ (lent c.args.separators.now c.args.numbers.now c.args.words.now c.args.owners.now) c.requires.ready.homing.valid c.requires.ready.sized _ c.survey_pages-bad.ensures.value c.if-bad-pages.false in
    let local : IsLocal c.args.geometry.parameters c.args.geometry.growth c.args.separators.now c.args.numbers.now c.args.step = c.is_local.ensures c.if-is_local.true in
    let y = c.plan_block in
    let near = local in
    let size = c.survey_pages-bad.auto.homes ∙ c.requires.pool_len in record {
      value = spacious-answer _ _ (lent c.args.separators.now c.args.numbers.now c.args.words.now c.args.owners.now) c.requires.ready.homing.valid c.requires.ready.homing.growth c.requires.ready.sized sound c.requires.movable near.spacious _;
      plans_step = λ page e.
          block-named _ _ (lent c.args.separators.now c.args.numbers.now c.args.words.now c.args.owners.now) c.requires.ready.homing.valid c.requires.ready.sized c.args.step _ _ _ _ size y.ensures c.requires.ready.homing.growth sound c.requires.movable
          near.spacious near.other c.requires.pages_in_bounds.0 y.auto.pool y.auto.planned;
    }

pub plan_all-requires : goal.plan_all-requires
plan_all-requires c =
    let homed : c.survey_pages-bad.new.homes ≡ homes_of c.args.geometry.parameters c.args.geometry.growth c.args.numbers.now = surveyed-all _ _ (lent c.args.separators.now c.args.numbers.now c.args.words.now c.args.owners.now) c.requires.ready.homing.valid c.requires.ready.sized _ c.survey_pages-bad.ensures.value c.if-bad-pages.false _ _ c.requires.pool_len c.survey_pages-bad.ensures.homes_after in
    let sound : let p = c.args.geometry.parameters in first_unsound_lem p c.args.geometry.growth (lent c.args.separators.now c.args.numbers.now c.args.words.now c.args.owners.now) 0 p.pages ≡ p.pages = surveyed-sound _ _ (lent c.args.separators.now c.args.numbers.now c.args.words.now c.args.owners.now) c.requires.ready.homing.valid c.requires.ready.sized _ c.survey_pages-bad.ensures.value c.if-bad-pages.false in
    record {
      homing = c.requires.ready.homing;
      movable = c.requires.movable;
      numbers_len = (c.requires.ready.sized.of_numbers, c.requires.waiting_len);
      pages_in_bounds = c.requires.pages_in_bounds.0;
      numbers_value = sound-numbers _ _ (lent c.args.separators.now c.args.numbers.now c.args.words.now c.args.owners.now) c.requires.ready.homing.valid c.requires.ready.sized sound 0 _ (omega arith);
      pool_value = homed;
      homes_stay = homes-stay _ _ (lent c.args.separators.now c.args.numbers.now c.args.words.now c.args.owners.now) c.requires.ready.homing.valid c.requires.ready.sized sound false c.requires.ready.homing.growth c.requires.movable;
    }

pub returns-then-not-plan_all : goal.returns-then-not-plan_all
returns-then-not-plan_all c =
    let later : valid_growth c.args.geometry.parameters (grown c.args.geometry.parameters c.args.geometry.growth) ≡ true = next-valid false _ _ c.requires.ready.homing.valid c.requires.ready.homing.growth c.requires.movable in
    let sound : let p = c.args.geometry.parameters in first_unsound_lem p c.args.geometry.growth (lent c.args.separators.now c.args.numbers.now c.args.words.now c.args.owners.now) 0 p.pages ≡ p.pages = surveyed-sound _ _ (lent c.args.separators.now c.args.numbers.now c.args.words.now c.args.owners.now) c.requires.ready.homing.valid c.requires.ready.sized _ c.survey_pages-bad.ensures.value c.if-bad-pages.false in
    let P = c.plan_all.ensures in
    record {
      value = (plan_overflows _ _ _ (lent c.args.separators.now c.args.numbers.now c.args.words.now c.args.owners.now) c.requires.ready.homing.valid c.requires.ready.sized later sound _ _ _ _ _ _ P c.if-not-plan_all.true).0;
      plans_step = λ page e. absurd (overflows_on page e);
    }

pub returns : goal.returns
returns c =
    let later : valid_growth c.args.geometry.parameters (grown c.args.geometry.parameters c.args.geometry.growth) ≡ true = next-valid false _ _ c.requires.ready.homing.valid c.requires.ready.homing.growth c.requires.movable in
    let sound : let p = c.args.geometry.parameters in first_unsound_lem p c.args.geometry.growth (lent c.args.separators.now c.args.numbers.now c.args.words.now c.args.owners.now) 0 p.pages ≡ p.pages = surveyed-sound _ _ (lent c.args.separators.now c.args.numbers.now c.args.words.now c.args.owners.now) c.requires.ready.homing.valid c.requires.ready.sized _ c.survey_pages-bad.ensures.value c.if-bad-pages.false in
    let P = c.plan_all.ensures in
    let kept = c.plan_all.auto in
    let size = kept.pool ∙ c.survey_pages-bad.auto.homes ∙ c.requires.pool_len in
    let done = plan_fits _ _ _ (lent c.args.separators.now c.args.numbers.now c.args.words.now c.args.owners.now) c.requires.ready.homing.valid c.requires.ready.sized later sound _ _ _ _ _ _ P c.if-not-plan_all.false c.requires.pages_in_bounds.0 in
    record {
      value = done.0;
      plans_step = λ page e. all_named _ _ _ (lent c.args.separators.now c.args.numbers.now c.args.words.now c.args.owners.now) _ _ done.0 c.args.step _ _ c.requires.ready.sized size (omega (arith, c.requires.pages_in_bounds.0, kept.planned)) c.requires.pages_in_bounds.1 done.1;
    }
