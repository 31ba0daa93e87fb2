-- Where the plan of all pages places every star, it is applied.
use mathlib.Core.Path.{◌≡◌, ◌∙◌, refl}
use mathlib.Core.Bool.{true}
use Prim.Native.Nat.{ℕ, ◌+◌, ◌*◌, ◌≤◌}
use native.Mathlib.Nat.{zero-add}
use native.Mathlib.Omega.{arith}
use Rattle.hashing.specs.Limits.{valid_growth}
use Rattle.hashing.proofs.Bounds.{limits}
use Rattle.placement.specs.Hash.{lent}
use Rattle.removal_reach.proofs.Ruled.{applied-lists}
use Rattle.growth_plan.specs.Growth.{state_after}
use Rattle.growth_plan.proofs.Growing.{next-valid, sound-numbers, homes-stay}
use Rattle.growth_plan.proofs.PlannedGrowth.{plan_overflows, plan_fits}
use Rattle.growth_plan.proofs.growth.replace_all.Goals as goal

span : (M b n : ℕ) → n ≡ M * b → (0 + M) * b ≤ n
span M b n e = rw (zero-add M) (omega arith)

pub plan_all-requires : goal.plan_all-requires
plan_all-requires c =
    let most : c.args.geometry.parameters.pages ≤ 1024 = (limits _ c.requires.ready.homing.valid).pages_most in
    record {
      homing = c.requires.ready.homing;
      movable = c.requires.movable;
      numbers_len = (c.requires.ready.sized.of_numbers, c.requires.pooled.of_words_lem);
      pages_in_bounds = omega (arith, most);
      numbers_value = sound-numbers _ _ (lent c.args.separators.now c.args.numbers.now c.args.words.now c.args.owners.now) c.requires.ready.homing.valid c.requires.ready.sized c.requires.pages_value 0 _ (omega arith);
      pool_value = c.requires.pool_value;
      homes_stay = homes-stay _ _ (lent c.args.separators.now c.args.numbers.now c.args.words.now c.args.owners.now) c.requires.ready.homing.valid c.requires.ready.sized c.requires.pages_value c.args.back c.requires.ready.homing.growth c.requires.movable;
    }

pub shape_of-numbers-then-not-plan_all : goal.shape_of-numbers-then-not-plan_all
shape_of-numbers-then-not-plan_all c = refl

pub returns-then-not-plan_all : goal.returns-then-not-plan_all
returns-then-not-plan_all c =
    let later : let p = c.args.geometry.parameters in valid_growth p (state_after c.args.back p c.args.geometry.growth) ≡ true = next-valid c.args.back _ _ c.requires.ready.homing.valid c.requires.ready.homing.growth c.requires.movable in
    record {
      value = (plan_overflows _ _ _ (lent c.args.separators.now c.args.numbers.now c.args.words.now c.args.owners.now) c.requires.ready.homing.valid c.requires.ready.sized later c.requires.pages_value _ _ _ _ _ _ c.plan_all.ensures c.if-not-plan_all.true).0;
      owners_value = (plan_overflows _ _ _ (lent c.args.separators.now c.args.numbers.now c.args.words.now c.args.owners.now) c.requires.ready.homing.valid c.requires.ready.sized later c.requires.pages_value _ _ _ _ _ c.args.page c.plan_all.ensures c.if-not-plan_all.true).1;
    }

pub apply-requires : goal.apply-requires
apply-requires c =
    let most : c.args.geometry.parameters.pages ≤ 1024 = (limits _ c.requires.ready.homing.valid).pages_most in
    let z = c.requires.ready.sized in
    let kept = c.plan_all.auto in record {
      places_bound = ((limits _ c.requires.ready.homing.valid).places_most, omega (arith, most));
      count_in_bounds = (omega (arith, z.of_separators), omega (arith, most, kept.planned));
      places_in_bounds = (span _ _ _ z.of_numbers, span _ _ _ z.of_words_lem);
      places_in_bounds_2 = (span _ _ _ (kept.pool ∙ c.requires.pooled.of_numbers), span _ _ _ (kept.waiting ∙ c.requires.pooled.of_words_lem));
      places_in_bounds_3 = (span _ _ _ z.of_owners, span _ _ _ c.requires.pooled.of_owners);
    }

pub shape_of-pool : goal.shape_of-pool
shape_of-pool c = c.apply.auto.pool ∙ c.plan_all.auto.pool

pub returns : goal.returns
returns c =
    let later : let p = c.args.geometry.parameters in valid_growth p (state_after c.args.back p c.args.geometry.growth) ≡ true = next-valid c.args.back _ _ c.requires.ready.homing.valid c.requires.ready.homing.growth c.requires.movable in
    let most : c.args.geometry.parameters.pages ≤ 1024 = (limits _ c.requires.ready.homing.valid).pages_most in
    let done = plan_fits _ _ _ (lent c.args.separators.now c.args.numbers.now c.args.words.now c.args.owners.now) c.requires.ready.homing.valid c.requires.ready.sized later c.requires.pages_value _ _ _ _ _ _ c.plan_all.ensures
    c.if-not-plan_all.false (omega (arith, most)) in
    let left = c.apply.ensures in
    record {
      value = done.0;
      owners_value = applied-lists _ _ _ _ _ _ _ _ _ _ _ _ _ left.separators_after left.numbers_after left.words_after left.owners_after ∙ done.1;
    }
