use mathlib.Core.Path.{ap, ◌∙◌}
use Prim.Native.Nat.{ℕ, ◌+◌, ◌-◌, ◌*◌, ◌<◌}
use native.Mathlib.Omega.{arith}
use Rattle.page_edit.specs.Shift.{opened_at, Vacant}
use Rattle.page_edit.proofs.Shifted.{vacant-place}
use Rattle.growth_in_place.proofs.moving.put_homed.Goals as goal

pub overflow_add-page : goal.overflow_add-page
overflow_add-page c =
    let inside : c.place_on-place.result < c.args.places = let v = c.requires.vacancy in let vacant : Vacant c.args.places c.args.page c.place_on-place.result c.args.number c.args.numbers.now c.args.words.now c.args.owners.now = record { ordered = v.ordered; some = v.some; there = c.place_on-place.ensures; empty = v.empty } in vacant-place vacant in
    omega (arith, inside, c.requires.places_in_bounds)

pub overflow_sub-places : goal.overflow_sub-places
overflow_sub-places c =
    let inside : c.place_on-place.result < c.args.places = let v = c.requires.vacancy in let vacant : Vacant c.args.places c.args.page c.place_on-place.result c.args.number c.args.numbers.now c.args.words.now c.args.owners.now = record { ordered = v.ordered; some = v.some; there = c.place_on-place.ensures; empty = v.empty } in vacant-place vacant in
    omega (arith, inside)

pub put_number-requires : goal.put_number-requires
put_number-requires c =
    let inside : c.place_on-place.result < c.args.places = let v = c.requires.vacancy in let vacant : Vacant c.args.places c.args.page c.place_on-place.result c.args.number c.args.numbers.now c.args.words.now c.args.owners.now = record { ordered = v.ordered; some = v.some; there = c.place_on-place.ensures; empty = v.empty } in vacant-place vacant in
    omega (arith, inside, c.requires.places_in_bounds)

pub returns : goal.returns
returns c =
    let put = c.put_star.ensures in record {
      stands_on = record { of_numbers = put.of_numbers; of_words_lem = put.of_words_lem; of_owners = put.of_owners };
      homes_after = c.put_number.ensures
          ∙ ap (λ (place : ℕ). opened_at (c.args.page * c.args.places + place) (c.args.places - place) c.args.page c.args.homes.now) c.place_on-place.ensures;
    }
