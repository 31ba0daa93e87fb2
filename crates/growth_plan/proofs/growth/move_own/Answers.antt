-- `growth_plan::growth::move_own` meets its contract.
use mathlib.Core.Path.{◌≡◌, sym, ap, subst, ◌∙◌}
use mathlib.Core.Bool.{true}
use Prim.Native.Nat.{ℕ, ◌<◌}
use native.Mathlib.Omega.{arith}
use Rattle.hashing.specs.declared.Growth.{Growth}
use Rattle.hashing.specs.Geometry.{highest, grown, shrunk}
use Rattle.hashing.specs.Limits.{valid_growth}
use Rattle.hashing.proofs.Bounds.{limits}
use Rattle.hashing.proofs.Shrinking.{shrunk-valid, shrunk-below}
use Rattle.pages.proofs.Parts.{page-fits}
use Rattle.placement.specs.File.{File}
use Rattle.placement.specs.Hash.{lent}
use Rattle.placement.specs.Shape.{homes_of}
use Rattle.placement.specs.Ready.{Pooled}
use Rattle.reach.specs.Reach.{all_stars}
use Rattle.own_stars.specs.Own.{LaidOut, rest_from_lem, Listed, EnteredBelow, OwnEntered, EntersOwn, TakeableOwn, OwnOf}
use Rattle.own_stars.proofs.Laying.{laid-sized}
use Rattle.growth_plan.specs.Growth.{growth_file}
use Rattle.growth_plan.proofs.GivenBack.{own_of, clean_laid, own-listed, own-takeable, others-laid, all-entered, back-grown, none-entered, highest-inside}
use Rattle.growth_plan.proofs.growth.move_own.Goals as goal

-- the own stars
-- taken from their page
-- entered under the growth state before
-- grown again
pub find_own-own-requires : goal.find_own-own-requires
find_own-own-requires c =
    let inside : c.highest_address-page.result < (c.args.geometry.parameters).pages = omega (arith, c.highest_address-page.ensures, highest-inside (c.args.geometry.parameters) (c.args.geometry.growth) c.requires.ready.homing.valid c.requires.ready.homing.growth) in
    let z = c.requires.ready.sized in
    let l = limits _ c.requires.ready.homing.valid in
    record {
      places_bound = (l.places_most, omega (arith, inside, l.pages_most));
      places_in_bounds = page-fits _ _ _ inside z.of_numbers;
      places_in_bounds_2 = page-fits _ _ _ inside z.of_words_lem;
      places_in_bounds_3 = page-fits _ _ _ inside z.of_owners;
      places_in_bounds_4 = page-fits _ _ _ inside c.requires.pooled.of_numbers;
    }

pub take_own-requires : goal.take_own-requires
take_own-requires c =
    let found : OwnOf (c.args.geometry.parameters).places (highest (c.args.geometry.parameters) (c.args.geometry.growth)) c.args.numbers.now c.args.words.now c.args.owners.now (homes_of (c.args.geometry.parameters) (c.args.geometry.growth) c.args.numbers.now) (c.find_own-own.result) = own_of _ _ _ _ _ _ _ _ _ c.highest_address-page.ensures c.requires.pool_value c.find_own-own.ensures in
    record {
      ready = c.requires.ready;
      pooled = c.requires.pooled;
      takeable_own = subst (λ (q : ℕ). TakeableOwn (c.args.geometry.parameters) (c.args.geometry.growth) (lent c.args.separators.now c.args.numbers.now c.args.words.now c.args.owners.now) (c.find_own-own.result) q) (sym c.highest_address-page.ensures)
          (own-takeable (c.args.geometry.parameters) (c.args.geometry.growth) (lent c.args.separators.now c.args.numbers.now c.args.words.now c.args.owners.now) c.requires.ready.homing.valid c.requires.ready.homing.growth c.requires.ready.sized c.requires.pages_value c.requires.simple (c.find_own-own.result) found);
    }

pub shrunk-growth-requires : goal.shrunk-growth-requires
shrunk-growth-requires c = record {
  parameters_value = c.requires.ready.homing.valid;
  growth_value = c.requires.ready.homing.growth;
  growth_value_2 = c.requires.movable;
}

pub enter_own-entered-requires : goal.enter_own-entered-requires
enter_own-entered-requires c =
    let found : OwnOf (c.args.geometry.parameters).places (highest (c.args.geometry.parameters) (c.args.geometry.growth)) c.args.numbers.now c.args.words.now c.args.owners.now (homes_of (c.args.geometry.parameters) (c.args.geometry.growth) c.args.numbers.now) (c.find_own-own.result) = own_of _ _ _ _ _ _ _ _ _ c.highest_address-page.ensures c.requires.pool_value c.find_own-own.ensures in
    let listed : Listed (c.args.geometry.parameters).places (c.find_own-own.result) (all_stars c.args.geometry.parameters (lent c.args.separators.now c.args.numbers.now c.args.words.now c.args.owners.now)) = own-listed (c.args.geometry.parameters) (c.args.geometry.growth) (lent c.args.separators.now c.args.numbers.now c.args.words.now c.args.owners.now) c.requires.ready.homing.valid c.requires.ready.homing.growth c.requires.ready.sized c.requires.pages_value c.requires.simple (c.find_own-own.result) found in
    let others : LaidOut (c.args.geometry.parameters) (shrunk (c.args.geometry.parameters) (c.args.geometry.growth)) (lent c.take_own.new.separators c.take_own.new.numbers c.take_own.new.words c.take_own.new.owners) (rest_from_lem (c.args.geometry.parameters).places (c.find_own-own.result) (all_stars c.args.geometry.parameters (lent c.args.separators.now c.args.numbers.now c.args.words.now c.args.owners.now)) 0) = others-laid (c.args.geometry.parameters) (c.args.geometry.growth) (lent c.args.separators.now c.args.numbers.now c.args.words.now c.args.owners.now) c.requires.ready.homing.valid c.requires.ready.homing.growth c.requires.ready.sized c.requires.pages_value c.requires.simple (c.find_own-own.result) found c.requires.movable (lent c.take_own.new.separators c.take_own.new.numbers c.take_own.new.words c.take_own.new.owners) (c.take_own.ensures (all_stars c.args.geometry.parameters (lent c.args.separators.now c.args.numbers.now c.args.words.now c.args.owners.now)) listed (clean_laid (c.args.geometry.parameters) (c.args.geometry.growth) (lent c.args.separators.now c.args.numbers.now c.args.words.now c.args.owners.now) c.requires.ready.homing.valid c.requires.ready.homing.growth c.requires.ready.sized c.requires.pages_value c.requires.simple)) in
    let pooled-taken : Pooled (c.args.geometry.parameters) c.take_own.new.pool c.take_own.new.waiting c.take_own.new.poolowners = let pool = c.requires.pooled in let kept = c.take_own.auto in record { of_numbers = kept.pool ∙ pool.of_numbers; of_words_lem = kept.waiting ∙ pool.of_words_lem; of_owners = kept.poolowners ∙ pool.of_owners } in
    let valid-before : valid_growth (c.args.geometry.parameters) (shrunk (c.args.geometry.parameters) (c.args.geometry.growth)) ≡ true = shrunk-valid (c.args.geometry.parameters) (c.args.geometry.growth) c.requires.ready.homing.valid c.requires.movable c.requires.ready.homing.growth in
    record {
      ready = rw c.shrunk-growth.ensures (record {
        homing = record { table = c.requires.ready.homing.table; valid = c.requires.ready.homing.valid; growth = valid-before };
        sized = laid-sized _ _ (lent c.take_own.new.separators c.take_own.new.numbers c.take_own.new.words c.take_own.new.owners) _ c.requires.ready.homing.valid valid-before others;
      });
      pooled = pooled-taken;
      entered_below = rw c.shrunk-growth.ensures (record { stars = all_stars c.args.geometry.parameters (lent c.args.separators.now c.args.numbers.now c.args.words.now c.args.owners.now); listed = listed; begun = omega arith; laid_out = others });
    }

pub returns-then-entered-places : goal.returns-then-entered-places
returns-then-entered-places c =
    let found : OwnOf (c.args.geometry.parameters).places (highest (c.args.geometry.parameters) (c.args.geometry.growth)) c.args.numbers.now c.args.words.now c.args.owners.now (homes_of (c.args.geometry.parameters) (c.args.geometry.growth) c.args.numbers.now) (c.find_own-own.result) = own_of _ _ _ _ _ _ _ _ _ c.highest_address-page.ensures c.requires.pool_value c.find_own-own.ensures in
    let listed : Listed (c.args.geometry.parameters).places (c.find_own-own.result) (all_stars c.args.geometry.parameters (lent c.args.separators.now c.args.numbers.now c.args.words.now c.args.owners.now)) = own-listed (c.args.geometry.parameters) (c.args.geometry.growth) (lent c.args.separators.now c.args.numbers.now c.args.words.now c.args.owners.now) c.requires.ready.homing.valid c.requires.ready.homing.growth c.requires.ready.sized c.requires.pages_value c.requires.simple (c.find_own-own.result) found in
    let others : LaidOut (c.args.geometry.parameters) (shrunk (c.args.geometry.parameters) (c.args.geometry.growth)) (lent c.take_own.new.separators c.take_own.new.numbers c.take_own.new.words c.take_own.new.owners) (rest_from_lem (c.args.geometry.parameters).places (c.find_own-own.result) (all_stars c.args.geometry.parameters (lent c.args.separators.now c.args.numbers.now c.args.words.now c.args.owners.now)) 0) = others-laid (c.args.geometry.parameters) (c.args.geometry.growth) (lent c.args.separators.now c.args.numbers.now c.args.words.now c.args.owners.now) c.requires.ready.homing.valid c.requires.ready.homing.growth c.requires.ready.sized c.requires.pages_value c.requires.simple (c.find_own-own.result) found c.requires.movable (lent c.take_own.new.separators c.take_own.new.numbers c.take_own.new.words c.take_own.new.owners) (c.take_own.ensures (all_stars c.args.geometry.parameters (lent c.args.separators.now c.args.numbers.now c.args.words.now c.args.owners.now)) listed (clean_laid (c.args.geometry.parameters) (c.args.geometry.growth) (lent c.args.separators.now c.args.numbers.now c.args.words.now c.args.owners.now) c.requires.ready.homing.valid c.requires.ready.homing.growth c.requires.ready.sized c.requires.pages_value c.requires.simple)) in
    let some-entered : OwnEntered (c.args.geometry.parameters) (shrunk (c.args.geometry.parameters) (c.args.geometry.growth)) (lent c.enter_own-entered.new.separators c.enter_own-entered.new.numbers c.enter_own-entered.new.words c.enter_own-entered.new.owners) (c.find_own-own.result) (all_stars c.args.geometry.parameters (lent c.args.separators.now c.args.numbers.now c.args.words.now c.args.owners.now)) c.enter_own-entered.result = subst (λ (h : Growth). EntersOwn (c.args.geometry.parameters) h (lent c.take_own.new.separators c.take_own.new.numbers c.take_own.new.words c.take_own.new.owners) (lent c.enter_own-entered.new.separators c.enter_own-entered.new.numbers c.enter_own-entered.new.words c.enter_own-entered.new.owners) (c.find_own-own.result) 0 c.enter_own-entered.result) c.shrunk-growth.ensures c.enter_own-entered.ensures (all_stars c.args.geometry.parameters (lent c.args.separators.now c.args.numbers.now c.args.words.now c.args.owners.now)) listed others in
    all-entered (c.args.geometry.parameters) (c.args.geometry.growth) (lent c.args.separators.now c.args.numbers.now c.args.words.now c.args.owners.now) c.requires.ready.homing.valid c.requires.ready.homing.growth c.requires.ready.sized c.requires.pages_value c.requires.simple (c.find_own-own.result) found c.requires.movable
    (lent c.enter_own-entered.new.separators c.enter_own-entered.new.numbers c.enter_own-entered.new.words c.enter_own-entered.new.owners) _ some-entered c.if-entered-places.true

pub grow-requires : goal.grow-requires
grow-requires c =
    let found : OwnOf (c.args.geometry.parameters).places (highest (c.args.geometry.parameters) (c.args.geometry.growth)) c.args.numbers.now c.args.words.now c.args.owners.now (homes_of (c.args.geometry.parameters) (c.args.geometry.growth) c.args.numbers.now) (c.find_own-own.result) = own_of _ _ _ _ _ _ _ _ _ c.highest_address-page.ensures c.requires.pool_value c.find_own-own.ensures in
    let listed : Listed (c.args.geometry.parameters).places (c.find_own-own.result) (all_stars c.args.geometry.parameters (lent c.args.separators.now c.args.numbers.now c.args.words.now c.args.owners.now)) = own-listed (c.args.geometry.parameters) (c.args.geometry.growth) (lent c.args.separators.now c.args.numbers.now c.args.words.now c.args.owners.now) c.requires.ready.homing.valid c.requires.ready.homing.growth c.requires.ready.sized c.requires.pages_value c.requires.simple (c.find_own-own.result) found in
    let others : LaidOut (c.args.geometry.parameters) (shrunk (c.args.geometry.parameters) (c.args.geometry.growth)) (lent c.take_own.new.separators c.take_own.new.numbers c.take_own.new.words c.take_own.new.owners) (rest_from_lem (c.args.geometry.parameters).places (c.find_own-own.result) (all_stars c.args.geometry.parameters (lent c.args.separators.now c.args.numbers.now c.args.words.now c.args.owners.now)) 0) = others-laid (c.args.geometry.parameters) (c.args.geometry.growth) (lent c.args.separators.now c.args.numbers.now c.args.words.now c.args.owners.now) c.requires.ready.homing.valid c.requires.ready.homing.growth c.requires.ready.sized c.requires.pages_value c.requires.simple (c.find_own-own.result) found c.requires.movable (lent c.take_own.new.separators c.take_own.new.numbers c.take_own.new.words c.take_own.new.owners) (c.take_own.ensures (all_stars c.args.geometry.parameters (lent c.args.separators.now c.args.numbers.now c.args.words.now c.args.owners.now)) listed (clean_laid (c.args.geometry.parameters) (c.args.geometry.growth) (lent c.args.separators.now c.args.numbers.now c.args.words.now c.args.owners.now) c.requires.ready.homing.valid c.requires.ready.homing.growth c.requires.ready.sized c.requires.pages_value c.requires.simple)) in
    let some-entered : OwnEntered (c.args.geometry.parameters) (shrunk (c.args.geometry.parameters) (c.args.geometry.growth)) (lent c.enter_own-entered.new.separators c.enter_own-entered.new.numbers c.enter_own-entered.new.words c.enter_own-entered.new.owners) (c.find_own-own.result) (all_stars c.args.geometry.parameters (lent c.args.separators.now c.args.numbers.now c.args.words.now c.args.owners.now)) c.enter_own-entered.result = subst (λ (h : Growth). EntersOwn (c.args.geometry.parameters) h (lent c.take_own.new.separators c.take_own.new.numbers c.take_own.new.words c.take_own.new.owners) (lent c.enter_own-entered.new.separators c.enter_own-entered.new.numbers c.enter_own-entered.new.words c.enter_own-entered.new.owners) (c.find_own-own.result) 0 c.enter_own-entered.result) c.shrunk-growth.ensures c.enter_own-entered.ensures (all_stars c.args.geometry.parameters (lent c.args.separators.now c.args.numbers.now c.args.words.now c.args.owners.now)) listed others in
    let pooled-taken : Pooled (c.args.geometry.parameters) c.take_own.new.pool c.take_own.new.waiting c.take_own.new.poolowners = let pool = c.requires.pooled in let kept = c.take_own.auto in record { of_numbers = kept.pool ∙ pool.of_numbers; of_words_lem = kept.waiting ∙ pool.of_words_lem; of_owners = kept.poolowners ∙ pool.of_owners } in
    let pooled-entered : Pooled (c.args.geometry.parameters) c.enter_own-entered.new.pool c.enter_own-entered.new.waiting c.enter_own-entered.new.poolowners = let pool = pooled-taken in let kept = c.enter_own-entered.auto in record { of_numbers = kept.pool ∙ pool.of_numbers; of_words_lem = kept.waiting ∙ pool.of_words_lem; of_owners = kept.poolowners ∙ pool.of_owners } in
    let valid-before : valid_growth (c.args.geometry.parameters) (shrunk (c.args.geometry.parameters) (c.args.geometry.growth)) ≡ true = shrunk-valid (c.args.geometry.parameters) (c.args.geometry.growth) c.requires.ready.homing.valid c.requires.movable c.requires.ready.homing.growth in
    record {
      ready = rw c.shrunk-growth.ensures (record {
        homing = record { table = c.requires.ready.homing.table; valid = c.requires.ready.homing.valid; growth = valid-before };
        sized = laid-sized _ _ (lent c.enter_own-entered.new.separators c.enter_own-entered.new.numbers c.enter_own-entered.new.words c.enter_own-entered.new.owners) _ c.requires.ready.homing.valid valid-before some-entered.laid_out;
      });
      pooled = pooled-entered;
      movable = rw c.shrunk-growth.ensures (shrunk-below (c.args.geometry.parameters) (c.args.geometry.growth) c.requires.ready.homing.valid c.requires.movable c.requires.ready.homing.growth);
    }

pub enter_own-requires : goal.enter_own-requires
enter_own-requires c =
    let pooled-taken : Pooled (c.args.geometry.parameters) c.take_own.new.pool c.take_own.new.waiting c.take_own.new.poolowners = let pool = c.requires.pooled in let kept = c.take_own.auto in record { of_numbers = kept.pool ∙ pool.of_numbers; of_words_lem = kept.waiting ∙ pool.of_words_lem; of_owners = kept.poolowners ∙ pool.of_owners } in
    let pooled-entered : Pooled (c.args.geometry.parameters) c.enter_own-entered.new.pool c.enter_own-entered.new.waiting c.enter_own-entered.new.poolowners = let pool = pooled-taken in let kept = c.enter_own-entered.auto in record { of_numbers = kept.pool ∙ pool.of_numbers; of_words_lem = kept.waiting ∙ pool.of_words_lem; of_owners = kept.poolowners ∙ pool.of_owners } in
    let found : OwnOf (c.args.geometry.parameters).places (highest (c.args.geometry.parameters) (c.args.geometry.growth)) c.args.numbers.now c.args.words.now c.args.owners.now (homes_of (c.args.geometry.parameters) (c.args.geometry.growth) c.args.numbers.now) (c.find_own-own.result) = own_of _ _ _ _ _ _ _ _ _ c.highest_address-page.ensures c.requires.pool_value c.find_own-own.ensures in
    let listed : Listed (c.args.geometry.parameters).places (c.find_own-own.result) (all_stars c.args.geometry.parameters (lent c.args.separators.now c.args.numbers.now c.args.words.now c.args.owners.now)) = own-listed (c.args.geometry.parameters) (c.args.geometry.growth) (lent c.args.separators.now c.args.numbers.now c.args.words.now c.args.owners.now) c.requires.ready.homing.valid c.requires.ready.homing.growth c.requires.ready.sized c.requires.pages_value c.requires.simple (c.find_own-own.result) found in
    let others : LaidOut (c.args.geometry.parameters) (shrunk (c.args.geometry.parameters) (c.args.geometry.growth)) (lent c.take_own.new.separators c.take_own.new.numbers c.take_own.new.words c.take_own.new.owners) (rest_from_lem (c.args.geometry.parameters).places (c.find_own-own.result) (all_stars c.args.geometry.parameters (lent c.args.separators.now c.args.numbers.now c.args.words.now c.args.owners.now)) 0) = others-laid (c.args.geometry.parameters) (c.args.geometry.growth) (lent c.args.separators.now c.args.numbers.now c.args.words.now c.args.owners.now) c.requires.ready.homing.valid c.requires.ready.homing.growth c.requires.ready.sized c.requires.pages_value c.requires.simple (c.find_own-own.result) found c.requires.movable (lent c.take_own.new.separators c.take_own.new.numbers c.take_own.new.words c.take_own.new.owners) (c.take_own.ensures (all_stars c.args.geometry.parameters (lent c.args.separators.now c.args.numbers.now c.args.words.now c.args.owners.now)) listed (clean_laid (c.args.geometry.parameters) (c.args.geometry.growth) (lent c.args.separators.now c.args.numbers.now c.args.words.now c.args.owners.now) c.requires.ready.homing.valid c.requires.ready.homing.growth c.requires.ready.sized c.requires.pages_value c.requires.simple)) in
    let some-entered : OwnEntered (c.args.geometry.parameters) (shrunk (c.args.geometry.parameters) (c.args.geometry.growth)) (lent c.enter_own-entered.new.separators c.enter_own-entered.new.numbers c.enter_own-entered.new.words c.enter_own-entered.new.owners) (c.find_own-own.result) (all_stars c.args.geometry.parameters (lent c.args.separators.now c.args.numbers.now c.args.words.now c.args.owners.now)) c.enter_own-entered.result = subst (λ (h : Growth). EntersOwn (c.args.geometry.parameters) h (lent c.take_own.new.separators c.take_own.new.numbers c.take_own.new.words c.take_own.new.owners) (lent c.enter_own-entered.new.separators c.enter_own-entered.new.numbers c.enter_own-entered.new.words c.enter_own-entered.new.owners) (c.find_own-own.result) 0 c.enter_own-entered.result) c.shrunk-growth.ensures c.enter_own-entered.ensures (all_stars c.args.geometry.parameters (lent c.args.separators.now c.args.numbers.now c.args.words.now c.args.owners.now)) listed others in
    let laid-again : LaidOut (c.args.geometry.parameters) (c.args.geometry.growth) (lent c.grow.new.separators c.grow.new.numbers c.grow.new.words c.grow.new.owners) (rest_from_lem (c.args.geometry.parameters).places (c.find_own-own.result) (all_stars c.args.geometry.parameters (lent c.args.separators.now c.args.numbers.now c.args.words.now c.args.owners.now)) c.enter_own-entered.result) = subst (λ (f : File). LaidOut (c.args.geometry.parameters) (c.args.geometry.growth) f (rest_from_lem (c.args.geometry.parameters).places (c.find_own-own.result) (all_stars c.args.geometry.parameters (lent c.args.separators.now c.args.numbers.now c.args.words.now c.args.owners.now)) c.enter_own-entered.result)) (ap (λ (h : Growth). growth_file (c.args.geometry.parameters) h (lent c.enter_own-entered.new.separators c.enter_own-entered.new.numbers c.enter_own-entered.new.words c.enter_own-entered.new.owners) (grown (c.args.geometry.parameters) h)) (sym c.shrunk-growth.ensures) ∙ sym c.grow.ensures.owners_value) (back-grown (c.args.geometry.parameters) (c.args.geometry.growth) (lent c.args.separators.now c.args.numbers.now c.args.words.now c.args.owners.now) c.requires.ready.homing.valid c.requires.ready.homing.growth c.requires.ready.sized c.requires.pages_value c.requires.simple (c.find_own-own.result) found c.requires.movable (lent c.enter_own-entered.new.separators c.enter_own-entered.new.numbers c.enter_own-entered.new.words c.enter_own-entered.new.owners) _ some-entered) in
    let begun-again : EnteredBelow (c.args.geometry.parameters) (c.args.geometry.growth) (lent c.grow.new.separators c.grow.new.numbers c.grow.new.words c.grow.new.owners) (c.find_own-own.result) c.enter_own-entered.result = record { stars = all_stars c.args.geometry.parameters (lent c.args.separators.now c.args.numbers.now c.args.words.now c.args.owners.now); listed = listed; begun = some-entered.most; laid_out = laid-again } in
    let pool = pooled-entered in
    let kept = c.grow.auto in record {
      ready = record { homing = c.requires.ready.homing; sized = laid-sized _ _ (lent c.grow.new.separators c.grow.new.numbers c.grow.new.words c.grow.new.owners) _ c.requires.ready.homing.valid c.requires.ready.homing.growth laid-again };
      pooled = record { of_numbers = kept.pool ∙ pool.of_numbers; of_words_lem = kept.waiting ∙ pool.of_words_lem; of_owners = kept.poolowners ∙ pool.of_owners };
      entered_below = begun-again;
    }

pub shape_of-separators : goal.shape_of-separators
shape_of-separators c = c.enter_own.auto.separators ∙ c.grow.auto.separators ∙ c.enter_own-entered.auto.separators ∙ c.take_own.auto.separators

pub shape_of-numbers : goal.shape_of-numbers
shape_of-numbers c = c.enter_own.auto.numbers ∙ c.grow.auto.numbers ∙ c.enter_own-entered.auto.numbers ∙ c.take_own.auto.numbers

pub shape_of-words : goal.shape_of-words
shape_of-words c = c.enter_own.auto.words ∙ c.grow.auto.words ∙ c.enter_own-entered.auto.words ∙ c.take_own.auto.words

pub shape_of-owners : goal.shape_of-owners
shape_of-owners c = c.enter_own.auto.owners ∙ c.grow.auto.owners ∙ c.enter_own-entered.auto.owners ∙ c.take_own.auto.owners

pub shape_of-pool : goal.shape_of-pool
shape_of-pool c = c.enter_own.auto.pool ∙ c.grow.auto.pool ∙ c.enter_own-entered.auto.pool ∙ c.take_own.auto.pool

pub shape_of-waiting : goal.shape_of-waiting
shape_of-waiting c = c.enter_own.auto.waiting ∙ c.grow.auto.waiting ∙ c.enter_own-entered.auto.waiting ∙ c.take_own.auto.waiting

pub shape_of-poolowners : goal.shape_of-poolowners
shape_of-poolowners c = c.enter_own.auto.poolowners ∙ c.grow.auto.poolowners ∙ c.enter_own-entered.auto.poolowners ∙ c.take_own.auto.poolowners

pub returns : goal.returns
returns c =
    let found : OwnOf (c.args.geometry.parameters).places (highest (c.args.geometry.parameters) (c.args.geometry.growth)) c.args.numbers.now c.args.words.now c.args.owners.now (homes_of (c.args.geometry.parameters) (c.args.geometry.growth) c.args.numbers.now) (c.find_own-own.result) = own_of _ _ _ _ _ _ _ _ _ c.highest_address-page.ensures c.requires.pool_value c.find_own-own.ensures in
    let listed : Listed (c.args.geometry.parameters).places (c.find_own-own.result) (all_stars c.args.geometry.parameters (lent c.args.separators.now c.args.numbers.now c.args.words.now c.args.owners.now)) = own-listed (c.args.geometry.parameters) (c.args.geometry.growth) (lent c.args.separators.now c.args.numbers.now c.args.words.now c.args.owners.now) c.requires.ready.homing.valid c.requires.ready.homing.growth c.requires.ready.sized c.requires.pages_value c.requires.simple (c.find_own-own.result) found in
    let others : LaidOut (c.args.geometry.parameters) (shrunk (c.args.geometry.parameters) (c.args.geometry.growth)) (lent c.take_own.new.separators c.take_own.new.numbers c.take_own.new.words c.take_own.new.owners) (rest_from_lem (c.args.geometry.parameters).places (c.find_own-own.result) (all_stars c.args.geometry.parameters (lent c.args.separators.now c.args.numbers.now c.args.words.now c.args.owners.now)) 0) = others-laid (c.args.geometry.parameters) (c.args.geometry.growth) (lent c.args.separators.now c.args.numbers.now c.args.words.now c.args.owners.now) c.requires.ready.homing.valid c.requires.ready.homing.growth c.requires.ready.sized c.requires.pages_value c.requires.simple (c.find_own-own.result) found c.requires.movable (lent c.take_own.new.separators c.take_own.new.numbers c.take_own.new.words c.take_own.new.owners) (c.take_own.ensures (all_stars c.args.geometry.parameters (lent c.args.separators.now c.args.numbers.now c.args.words.now c.args.owners.now)) listed (clean_laid (c.args.geometry.parameters) (c.args.geometry.growth) (lent c.args.separators.now c.args.numbers.now c.args.words.now c.args.owners.now) c.requires.ready.homing.valid c.requires.ready.homing.growth c.requires.ready.sized c.requires.pages_value c.requires.simple)) in
    let some-entered : OwnEntered (c.args.geometry.parameters) (shrunk (c.args.geometry.parameters) (c.args.geometry.growth)) (lent c.enter_own-entered.new.separators c.enter_own-entered.new.numbers c.enter_own-entered.new.words c.enter_own-entered.new.owners) (c.find_own-own.result) (all_stars c.args.geometry.parameters (lent c.args.separators.now c.args.numbers.now c.args.words.now c.args.owners.now)) c.enter_own-entered.result = subst (λ (h : Growth). EntersOwn (c.args.geometry.parameters) h (lent c.take_own.new.separators c.take_own.new.numbers c.take_own.new.words c.take_own.new.owners) (lent c.enter_own-entered.new.separators c.enter_own-entered.new.numbers c.enter_own-entered.new.words c.enter_own-entered.new.owners) (c.find_own-own.result) 0 c.enter_own-entered.result) c.shrunk-growth.ensures c.enter_own-entered.ensures (all_stars c.args.geometry.parameters (lent c.args.separators.now c.args.numbers.now c.args.words.now c.args.owners.now)) listed others in
    let laid-again : LaidOut (c.args.geometry.parameters) (c.args.geometry.growth) (lent c.grow.new.separators c.grow.new.numbers c.grow.new.words c.grow.new.owners) (rest_from_lem (c.args.geometry.parameters).places (c.find_own-own.result) (all_stars c.args.geometry.parameters (lent c.args.separators.now c.args.numbers.now c.args.words.now c.args.owners.now)) c.enter_own-entered.result) = subst (λ (f : File). LaidOut (c.args.geometry.parameters) (c.args.geometry.growth) f (rest_from_lem (c.args.geometry.parameters).places (c.find_own-own.result) (all_stars c.args.geometry.parameters (lent c.args.separators.now c.args.numbers.now c.args.words.now c.args.owners.now)) c.enter_own-entered.result)) (ap (λ (h : Growth). growth_file (c.args.geometry.parameters) h (lent c.enter_own-entered.new.separators c.enter_own-entered.new.numbers c.enter_own-entered.new.words c.enter_own-entered.new.owners) (grown (c.args.geometry.parameters) h)) (sym c.shrunk-growth.ensures) ∙ sym c.grow.ensures.owners_value) (back-grown (c.args.geometry.parameters) (c.args.geometry.growth) (lent c.args.separators.now c.args.numbers.now c.args.words.now c.args.owners.now) c.requires.ready.homing.valid c.requires.ready.homing.growth c.requires.ready.sized c.requires.pages_value c.requires.simple (c.find_own-own.result) found c.requires.movable (lent c.enter_own-entered.new.separators c.enter_own-entered.new.numbers c.enter_own-entered.new.words c.enter_own-entered.new.owners) _ some-entered) in
    none-entered (c.args.geometry.parameters) (c.args.geometry.growth) (lent c.args.separators.now c.args.numbers.now c.args.words.now c.args.owners.now) c.requires.ready.homing.valid c.requires.ready.homing.growth c.requires.ready.sized c.requires.pages_value c.requires.simple (c.find_own-own.result) found c.requires.movable
    (lent c.enter_own-entered.new.separators c.enter_own-entered.new.numbers c.enter_own-entered.new.words c.enter_own-entered.new.owners) _ _ _ some-entered c.if-entered-places.false
    (c.enter_own.ensures (all_stars c.args.geometry.parameters (lent c.args.separators.now c.args.numbers.now c.args.words.now c.args.owners.now)) listed laid-again)
