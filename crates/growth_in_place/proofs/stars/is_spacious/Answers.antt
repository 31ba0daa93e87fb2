use mathlib.Core.Path.{◌≡◌, ◌∙◌}
use mathlib.Core.Bool.{false≢true}
use Prim.Native.Nat.{◌+◌, ◌<◌}
use native.Mathlib.Omega.{arith}
use lib.ListN.{get_or}
use Rattle.generator.specs.Generator.{top_of_lem}
use Rattle.hashing.specs.Geometry.{page_count, highest}
use Rattle.hashing.proofs.Bounds.{limits, growth_within, spread}
use Rattle.pages.proofs.Parts.{page-fits}
use Rattle.growth_in_place.proofs.stars.is_spacious.Goals as goal

-- where the new page's separator is 2^k − 1
pub overflow_add-added : goal.overflow_add-added
unfolding highest
overflow_add-added c =
    let added_is : c.highest_address-added.result + 1 ≡ page_count c.args.geometry.parameters c.args.geometry.growth = let p = c.args.geometry.parameters in let g = c.args.geometry.growth in omega (arith, c.highest_address-added.ensures, (spread p g (limits p c.requires.homing.valid) (growth_within p g c.requires.homing.growth)).pages_low) in
    let inside : c.highest_address-added.result + 1 < c.args.geometry.parameters.pages = omega (arith, added_is, c.requires.growth_bound) in
    omega (arith, inside, (limits _ c.requires.homing.valid).pages_most)

pub bounds-separators-page : goal.bounds-separators-page
unfolding highest
bounds-separators-page c =
    let added_is : c.highest_address-added.result + 1 ≡ page_count c.args.geometry.parameters c.args.geometry.growth = let p = c.args.geometry.parameters in let g = c.args.geometry.growth in omega (arith, c.highest_address-added.ensures, (spread p g (limits p c.requires.homing.valid) (growth_within p g c.requires.homing.growth)).pages_low) in
    let inside : c.highest_address-added.result + 1 < c.args.geometry.parameters.pages = omega (arith, added_is, c.requires.growth_bound) in
    omega (arith, inside, c.requires.separators_len)

pub returns-then-separators-page : goal.returns-then-separators-page
returns-then-separators-page c = λ e. absurd (false≢true e)

pub count_stars-count-requires : goal.count_stars-count-requires
unfolding highest
count_stars-count-requires c =
    let added_is : c.highest_address-added.result + 1 ≡ page_count c.args.geometry.parameters c.args.geometry.growth = let p = c.args.geometry.parameters in let g = c.args.geometry.growth in omega (arith, c.highest_address-added.ensures, (spread p g (limits p c.requires.homing.valid) (growth_within p g c.requires.homing.growth)).pages_low) in
    let inside : c.highest_address-added.result + 1 < c.args.geometry.parameters.pages = omega (arith, added_is, c.requires.growth_bound) in
    let topped : get_or c.args.separators.now (page_count c.args.geometry.parameters c.args.geometry.growth) 0 ≡ top_of_lem c.args.geometry.parameters.bits = rw (← added_is) (c.if-separators-page.false ∙ c.top_of.ensures) in
    record {
      homing = c.requires.homing;
      added_value = added_is;
      added_lt_pages = inside;
      separators_len = c.requires.separators_len;
      numbers_len = c.requires.numbers_len;
      homes_value = c.requires.homes_value;
      none_counted = c.requires.none_counted topped;
    }

pub has_room-requires : goal.has_room-requires
unfolding highest
has_room-requires c =
    let added_is : c.highest_address-added.result + 1 ≡ page_count c.args.geometry.parameters c.args.geometry.growth = let p = c.args.geometry.parameters in let g = c.args.geometry.growth in omega (arith, c.highest_address-added.ensures, (spread p g (limits p c.requires.homing.valid) (growth_within p g c.requires.homing.growth)).pages_low) in
    let inside : c.highest_address-added.result + 1 < c.args.geometry.parameters.pages = omega (arith, added_is, c.requires.growth_bound) in
    page-fits _ c.args.geometry.parameters.pages _ inside c.requires.numbers_len

pub returns : goal.returns
unfolding highest
returns c =
    let added_is : c.highest_address-added.result + 1 ≡ page_count c.args.geometry.parameters c.args.geometry.growth = let p = c.args.geometry.parameters in let g = c.args.geometry.growth in omega (arith, c.highest_address-added.ensures, (spread p g (limits p c.requires.homing.valid) (growth_within p g c.requires.homing.growth)).pages_low) in
    let topped : get_or c.args.separators.now (page_count c.args.geometry.parameters c.args.geometry.growth) 0 ≡ top_of_lem c.args.geometry.parameters.bits = rw (← added_is) (c.if-separators-page.false ∙ c.top_of.ensures) in
    λ e. record { top = topped; room = rw (c.count_stars-count.ensures, added_is) at (c.has_room.ensures e) }
