use native.Mathlib.Omega.{arith}
use Prim.Native.Nat.{◌<◌}
use Rattle.page_edit.proofs.Shifted.{occupied-place}
use native.Mathlib.Omega.{arith}
use Rattle.page_edit.proofs.Shifted.{occupied-place}
use Rattle.growth_in_place.proofs.moving.take_homed.Goals as goal

pub overflow_add-page : goal.overflow_add-page
overflow_add-page c =
    let inside : c.args.place < c.args.places = occupied-place c.requires.occupied in
    omega (arith, inside, c.requires.places_in_bounds)

pub overflow_sub-places : goal.overflow_sub-places
overflow_sub-places c =
    let inside : c.args.place < c.args.places = occupied-place c.requires.occupied in
    omega (arith, inside, c.requires.places_in_bounds)

pub overflow_sub-places-2 : goal.overflow_sub-places-2
overflow_sub-places-2 c =
    let inside : c.args.place < c.args.places = occupied-place c.requires.occupied in
    omega (arith, inside, c.requires.places_in_bounds)

pub take_number-requires : goal.take_number-requires
take_number-requires c =
    let inside : c.args.place < c.args.places = occupied-place c.requires.occupied in
    omega (arith, inside, c.requires.places_in_bounds)
