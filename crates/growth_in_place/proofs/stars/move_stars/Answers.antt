use mathlib.Core.Path.{◌≡◌, refl}
use mathlib.Core.Bool.{true≢false, false≢true}
use Prim.Native.Nat.{◌+◌, ◌<◌}
use native.Mathlib.Omega.{arith}
use Rattle.hashing.specs.Geometry.{page_count, highest}
use Rattle.hashing.proofs.Bounds.{limits, growth_within, spread}
use Rattle.pages.proofs.Parts.{page-fits}
use Rattle.placement.specs.Hash.{lent}
use Rattle.growth_in_place.specs.Expansion.{Spacious}
use Rattle.growth_in_place.proofs.Whole.{none-counted, begun-at, none-away-at, moved_at}
use Rattle.growth_in_place.proofs.stars.move_stars.Goals as goal

-- where the new page has room
pub is_spacious-requires : goal.is_spacious-requires
is_spacious-requires c =
    let z = c.requires.ready.sized in record {
      homing = c.requires.ready.homing;
      growth_bound = c.requires.growth_bound;
      separators_len = z.of_separators;
      numbers_len = z.of_numbers;
      homes_value = c.requires.homes_value;
      none_counted = λ top. none-counted _ _ (lent c.args.separators.now c.args.numbers.now c.args.words.now c.args.owners.now) c.requires.ready.homing.valid c.requires.ready.homing.growth z c.requires.pages_value c.requires.growth_bound top;
    }

pub returns-then-not-is_spacious : goal.returns-then-not-is_spacious
returns-then-not-is_spacious c = record { moved = λ e. absurd (false≢true e); untouched = λ e. record { of_numbers = refl; of_words_lem = refl; of_owners = refl; of_homes = refl } }

pub overflow_add-added : goal.overflow_add-added
unfolding highest
overflow_add-added c =
    let added_is : c.highest_address-added.result + 1 ≡ page_count c.args.geometry.parameters c.args.geometry.growth = let p = c.args.geometry.parameters in let g = c.args.geometry.growth in omega (arith, c.highest_address-added.ensures, (spread p g (limits p c.requires.ready.homing.valid) (growth_within p g c.requires.ready.homing.growth)).pages_low) in
    let inside : c.highest_address-added.result + 1 < c.args.geometry.parameters.pages = omega (arith, added_is, c.requires.growth_bound) in
    omega (arith, inside, (limits _ c.requires.ready.homing.valid).pages_most)

pub rehome_page-requires : goal.rehome_page-requires
unfolding highest
rehome_page-requires c =
    let added_is : c.highest_address-added.result + 1 ≡ page_count c.args.geometry.parameters c.args.geometry.growth = let p = c.args.geometry.parameters in let g = c.args.geometry.growth in omega (arith, c.highest_address-added.ensures, (spread p g (limits p c.requires.ready.homing.valid) (growth_within p g c.requires.ready.homing.growth)).pages_low) in
    let inside : c.highest_address-added.result + 1 < c.args.geometry.parameters.pages = omega (arith, added_is, c.requires.growth_bound) in
    record {
      homing = c.requires.ready.homing;
      places_in_bounds = page-fits _ c.args.geometry.parameters.pages _ inside c.requires.ready.sized.of_numbers;
      homes_value = c.requires.homes_value;
    }

pub move_below-requires : goal.move_below-requires
unfolding highest
move_below-requires c =
    let spacious : Spacious c.args.geometry.parameters c.args.geometry.growth c.args.separators.now c.args.numbers.now = c.is_spacious.ensures c.if-not-is_spacious.false in
    let added_is : c.highest_address-added.result + 1 ≡ page_count c.args.geometry.parameters c.args.geometry.growth = let p = c.args.geometry.parameters in let g = c.args.geometry.growth in omega (arith, c.highest_address-added.ensures, (spread p g (limits p c.requires.ready.homing.valid) (growth_within p g c.requires.ready.homing.growth)).pages_low) in
    let inside : c.highest_address-added.result + 1 < c.args.geometry.parameters.pages = omega (arith, added_is, c.requires.growth_bound) in
    let wide = spacious in
    let begins =
    begun-at _ _ (lent c.args.separators.now c.args.numbers.now c.args.words.now c.args.owners.now) c.requires.ready.homing.valid c.requires.ready.homing.growth c.requires.ready.sized c.requires.pages_value c.requires.growth_bound wide _ added_is
    _ _ c.requires.homes_value c.rehome_page.ensures in
    let none = none-away-at _ _ (lent c.args.separators.now c.args.numbers.now c.args.words.now c.args.owners.now) c.requires.ready.homing.valid c.requires.ready.homing.growth c.requires.ready.sized c.requires.pages_value c.requires.growth_bound wide _ added_is in
    record {
      homing = c.requires.ready.homing;
      separators_len = c.requires.ready.sized.of_separators;
      moving = begins;
      added_value = (added_is, inside);
      none_away = none;
    }

pub returns : goal.returns
unfolding highest
returns c =
    let spacious : Spacious c.args.geometry.parameters c.args.geometry.growth c.args.separators.now c.args.numbers.now = c.is_spacious.ensures c.if-not-is_spacious.false in
    let added_is : c.highest_address-added.result + 1 ≡ page_count c.args.geometry.parameters c.args.geometry.growth = let p = c.args.geometry.parameters in let g = c.args.geometry.growth in omega (arith, c.highest_address-added.ensures, (spread p g (limits p c.requires.ready.homing.valid) (growth_within p g c.requires.ready.homing.growth)).pages_low) in
    let done = c.move_below.ensures in
    record {
      moved = λ e. moved_at _ _ (lent c.args.separators.now c.args.numbers.now c.args.words.now c.args.owners.now) c.requires.ready.homing.valid c.requires.ready.homing.growth c.requires.ready.sized c.requires.pages_value c.requires.growth_bound spacious _ added_is _ _ _ _ done.stepped.underway done.stepped.kept done.settled_below;
      untouched = λ e. absurd (true≢false e);
    }
