use mathlib.Core.Path.{◌≡◌}
use mathlib.Core.Bool.{true, false}
use native.Mathlib.Nat.{le_refl}
use native.Mathlib.Omega.{arith}
use Rattle.hashing.specs.Limits.{valid_growth}
use Rattle.hashing.specs.Geometry.{grown}
use Rattle.hashing.proofs.Bounds.{limits}
use Rattle.placement.specs.Hash.{lent}
use Rattle.placement.specs.Shape.{homes_of}
use Rattle.reach.specs.Reach.{first_unsound_lem}
use Rattle.reach.proofs.Surveyed.{known-none}
use Rattle.growth_in_place.proofs.Whole.{none-counted}
use Rattle.growth_plan.proofs.PlannedGrowth.{plan_overflows, plan_fits, spacious-answer}
use Rattle.growth_plan.proofs.Growing.{next-valid, growth_refused, surveyed-all, surveyed-sound, sound-numbers, homes-stay}
use Rattle.growth_plan.proofs.steps.accept_growth.Goals as goal

-- all pages are sound, and the pool holds the homes of their items
pub survey_pages-bad-requires : goal.survey_pages-bad-requires
survey_pages-bad-requires c =
    record {
      ready = c.requires.ready;
      homes_len = c.requires.pool_len;
      from_le_stop = omega arith;
      stop_le_pages = omega arith;
      known = known-none _ _ _ _ _ (le_refl _);
    }

pub returns-then-bad-pages : goal.returns-then-bad-pages
returns-then-bad-pages c =
    (growth_refused _ _ (lent c.args.separators.now c.args.numbers.now c.args.words.now c.args.owners.now) c.requires.ready.homing.valid c.requires.ready.sized _ _ _ c.survey_pages-bad.ensures.value c.if-bad-pages.true).0

pub is_spacious-requires : goal.is_spacious-requires
is_spacious-requires c =
    let homed : c.survey_pages-bad.new.homes ≡ homes_of c.args.geometry.parameters c.args.geometry.growth c.args.numbers.now = surveyed-all _ _ (lent c.args.separators.now c.args.numbers.now c.args.words.now c.args.owners.now) c.requires.ready.homing.valid c.requires.ready.sized _ c.survey_pages-bad.ensures.value c.if-bad-pages.false _ _ c.requires.pool_len c.survey_pages-bad.ensures.homes_after in
    let sound : let p = c.args.geometry.parameters in first_unsound_lem p c.args.geometry.growth (lent c.args.separators.now c.args.numbers.now c.args.words.now c.args.owners.now) 0 p.pages ≡ p.pages = surveyed-sound _ _ (lent c.args.separators.now c.args.numbers.now c.args.words.now c.args.owners.now) c.requires.ready.homing.valid c.requires.ready.sized _ c.survey_pages-bad.ensures.value c.if-bad-pages.false in
    record {
      homing = c.requires.ready.homing;
      growth_bound = c.requires.movable;
      separators_len = c.requires.ready.sized.of_separators;
      numbers_len = c.requires.ready.sized.of_numbers;
      homes_value = homed;
      none_counted = λ top. none-counted _ _ (lent c.args.separators.now c.args.numbers.now c.args.words.now c.args.owners.now) c.requires.ready.homing.valid c.requires.ready.homing.growth c.requires.ready.sized sound c.requires.movable top;
    }

pub returns-then-is_spacious : goal.returns-then-is_spacious
returns-then-is_spacious c =
    let sound : let p = c.args.geometry.parameters in first_unsound_lem p c.args.geometry.growth (lent c.args.separators.now c.args.numbers.now c.args.words.now c.args.owners.now) 0 p.pages ≡ p.pages = surveyed-sound _ _ (lent c.args.separators.now c.args.numbers.now c.args.words.now c.args.owners.now) c.requires.ready.homing.valid c.requires.ready.sized _ c.survey_pages-bad.ensures.value c.if-bad-pages.false in
    spacious-answer _ _ (lent c.args.separators.now c.args.numbers.now c.args.words.now c.args.owners.now) c.requires.ready.homing.valid c.requires.ready.homing.growth c.requires.ready.sized sound c.requires.movable
    (c.is_spacious.ensures c.if-is_spacious.true) _

pub plan_all-requires : goal.plan_all-requires
plan_all-requires c =
    let homed : c.survey_pages-bad.new.homes ≡ homes_of c.args.geometry.parameters c.args.geometry.growth c.args.numbers.now = surveyed-all _ _ (lent c.args.separators.now c.args.numbers.now c.args.words.now c.args.owners.now) c.requires.ready.homing.valid c.requires.ready.sized _ c.survey_pages-bad.ensures.value c.if-bad-pages.false _ _ c.requires.pool_len c.survey_pages-bad.ensures.homes_after in
    let sound : let p = c.args.geometry.parameters in first_unsound_lem p c.args.geometry.growth (lent c.args.separators.now c.args.numbers.now c.args.words.now c.args.owners.now) 0 p.pages ≡ p.pages = surveyed-sound _ _ (lent c.args.separators.now c.args.numbers.now c.args.words.now c.args.owners.now) c.requires.ready.homing.valid c.requires.ready.sized _ c.survey_pages-bad.ensures.value c.if-bad-pages.false in
    record {
      homing = c.requires.ready.homing;
      movable = c.requires.movable;
      numbers_len = (c.requires.ready.sized.of_numbers, c.requires.waiting_len);
      pages_in_bounds = omega (arith, (limits _ c.requires.ready.homing.valid).pages_most);
      numbers_value = sound-numbers _ _ (lent c.args.separators.now c.args.numbers.now c.args.words.now c.args.owners.now) c.requires.ready.homing.valid c.requires.ready.sized sound 0 _ (omega arith);
      pool_value = homed;
      homes_stay = homes-stay _ _ (lent c.args.separators.now c.args.numbers.now c.args.words.now c.args.owners.now) c.requires.ready.homing.valid c.requires.ready.sized sound false c.requires.ready.homing.growth c.requires.movable;
    }

pub returns-then-not-plan_all : goal.returns-then-not-plan_all
returns-then-not-plan_all c =
    let later : valid_growth c.args.geometry.parameters (grown c.args.geometry.parameters c.args.geometry.growth) ≡ true = next-valid false _ _ c.requires.ready.homing.valid c.requires.ready.homing.growth c.requires.movable in
    let sound : let p = c.args.geometry.parameters in first_unsound_lem p c.args.geometry.growth (lent c.args.separators.now c.args.numbers.now c.args.words.now c.args.owners.now) 0 p.pages ≡ p.pages = surveyed-sound _ _ (lent c.args.separators.now c.args.numbers.now c.args.words.now c.args.owners.now) c.requires.ready.homing.valid c.requires.ready.sized _ c.survey_pages-bad.ensures.value c.if-bad-pages.false in
    let P = c.plan_all.ensures in
    (plan_overflows _ _ _ (lent c.args.separators.now c.args.numbers.now c.args.words.now c.args.owners.now) c.requires.ready.homing.valid c.requires.ready.sized later sound _ _ _ _ _ _ P c.if-not-plan_all.true).0

pub returns : goal.returns
returns c =
    let later : valid_growth c.args.geometry.parameters (grown c.args.geometry.parameters c.args.geometry.growth) ≡ true = next-valid false _ _ c.requires.ready.homing.valid c.requires.ready.homing.growth c.requires.movable in
    let sound : let p = c.args.geometry.parameters in first_unsound_lem p c.args.geometry.growth (lent c.args.separators.now c.args.numbers.now c.args.words.now c.args.owners.now) 0 p.pages ≡ p.pages = surveyed-sound _ _ (lent c.args.separators.now c.args.numbers.now c.args.words.now c.args.owners.now) c.requires.ready.homing.valid c.requires.ready.sized _ c.survey_pages-bad.ensures.value c.if-bad-pages.false in
    let P = c.plan_all.ensures in
    (plan_fits _ _ _ (lent c.args.separators.now c.args.numbers.now c.args.words.now c.args.owners.now) c.requires.ready.homing.valid c.requires.ready.sized later sound _ _ _ _ _ _ P c.if-not-plan_all.false (omega (arith, (limits _ c.requires.ready.homing.valid).pages_most))).0
