use Prim.Native.Nat.{◌+◌, ◌*◌, ◌≤◌, ◌<◌}
use native.Mathlib.Omega.{arith}
use native.Mathlib.Nat.{mul-le-mul}
use Rattle.hashing.specs.Geometry.{page_count}
use Rattle.hashing.proofs.Bounds.{limits}
use Rattle.pages.proofs.Parts.{page-fits}
use Rattle.growth_in_place.proofs.Step.{vacancy-at, still-occupied, stepped}
use Rattle.growth_in_place.proofs.moving.move_star.Goals as goal

pub overflow_mul-at : goal.overflow_mul-at
overflow_mul-at c =
    let fits : c.args.page * c.args.geometry.parameters.places + c.args.place < c.args.geometry.parameters.pages * c.args.geometry.parameters.places = let p = c.args.geometry.parameters in omega (arith, page-fits p.places p.pages c.args.page (omega (arith, c.requires.added_value.1, c.requires.page_lt_added.0)) c.requires.moving.of_numbers, c.requires.moving.of_numbers, c.requires.page_lt_added.1) in
    let small : c.args.page * c.args.geometry.parameters.places + c.args.place < 32768 = let p = c.args.geometry.parameters in let l = limits p c.requires.parameters_value in let wide : p.pages * p.places ≤ 1024 * 32 = mul-le-mul l.pages_most l.places_most in omega (arith, fits, wide) in
    omega (arith, small)

pub overflow_add-at : goal.overflow_add-at
overflow_add-at c =
    let fits : c.args.page * c.args.geometry.parameters.places + c.args.place < c.args.geometry.parameters.pages * c.args.geometry.parameters.places = let p = c.args.geometry.parameters in omega (arith, page-fits p.places p.pages c.args.page (omega (arith, c.requires.added_value.1, c.requires.page_lt_added.0)) c.requires.moving.of_numbers, c.requires.moving.of_numbers, c.requires.page_lt_added.1) in
    let small : c.args.page * c.args.geometry.parameters.places + c.args.place < 32768 = let p = c.args.geometry.parameters in let l = limits p c.requires.parameters_value in let wide : p.pages * p.places ≤ 1024 * 32 = mul-le-mul l.pages_most l.places_most in omega (arith, fits, wide) in
    omega (arith, small)

pub offset_bounds-numbers-at : goal.offset_bounds-numbers-at
offset_bounds-numbers-at c =
    let fits : c.args.page * c.args.geometry.parameters.places + c.args.place < c.args.geometry.parameters.pages * c.args.geometry.parameters.places = let p = c.args.geometry.parameters in omega (arith, page-fits p.places p.pages c.args.page (omega (arith, c.requires.added_value.1, c.requires.page_lt_added.0)) c.requires.moving.of_numbers, c.requires.moving.of_numbers, c.requires.page_lt_added.1) in
    let small : c.args.page * c.args.geometry.parameters.places + c.args.place < 32768 = let p = c.args.geometry.parameters in let l = limits p c.requires.parameters_value in let wide : p.pages * p.places ≤ 1024 * 32 = mul-le-mul l.pages_most l.places_most in omega (arith, fits, wide) in
    omega (arith, small)

pub bounds-numbers-at : goal.bounds-numbers-at
bounds-numbers-at c =
    let fits : c.args.page * c.args.geometry.parameters.places + c.args.place < c.args.geometry.parameters.pages * c.args.geometry.parameters.places = let p = c.args.geometry.parameters in omega (arith, page-fits p.places p.pages c.args.page (omega (arith, c.requires.added_value.1, c.requires.page_lt_added.0)) c.requires.moving.of_numbers, c.requires.moving.of_numbers, c.requires.page_lt_added.1) in
    omega (arith, fits, c.requires.moving.of_numbers)

pub offset_bounds-words-at : goal.offset_bounds-words-at
offset_bounds-words-at c =
    let fits : c.args.page * c.args.geometry.parameters.places + c.args.place < c.args.geometry.parameters.pages * c.args.geometry.parameters.places = let p = c.args.geometry.parameters in omega (arith, page-fits p.places p.pages c.args.page (omega (arith, c.requires.added_value.1, c.requires.page_lt_added.0)) c.requires.moving.of_numbers, c.requires.moving.of_numbers, c.requires.page_lt_added.1) in
    let small : c.args.page * c.args.geometry.parameters.places + c.args.place < 32768 = let p = c.args.geometry.parameters in let l = limits p c.requires.parameters_value in let wide : p.pages * p.places ≤ 1024 * 32 = mul-le-mul l.pages_most l.places_most in omega (arith, fits, wide) in
    omega (arith, small)

pub bounds-words-at : goal.bounds-words-at
bounds-words-at c =
    let fits : c.args.page * c.args.geometry.parameters.places + c.args.place < c.args.geometry.parameters.pages * c.args.geometry.parameters.places = let p = c.args.geometry.parameters in omega (arith, page-fits p.places p.pages c.args.page (omega (arith, c.requires.added_value.1, c.requires.page_lt_added.0)) c.requires.moving.of_numbers, c.requires.moving.of_numbers, c.requires.page_lt_added.1) in
    omega (arith, fits, c.requires.moving.of_words_lem)

pub bounds-owners-at : goal.bounds-owners-at
bounds-owners-at c =
    let fits : c.args.page * c.args.geometry.parameters.places + c.args.place < c.args.geometry.parameters.pages * c.args.geometry.parameters.places = let p = c.args.geometry.parameters in omega (arith, page-fits p.places p.pages c.args.page (omega (arith, c.requires.added_value.1, c.requires.page_lt_added.0)) c.requires.moving.of_numbers, c.requires.moving.of_numbers, c.requires.page_lt_added.1) in
    omega (arith, fits, c.requires.moving.of_owners)

pub put_homed-requires : goal.put_homed-requires
put_homed-requires c =
    let room : page_count c.args.geometry.parameters c.args.geometry.growth < c.args.geometry.parameters.pages = omega (arith, c.requires.added_value.0, c.requires.added_value.1) in
    let low : c.args.page < page_count c.args.geometry.parameters c.args.geometry.growth = omega (arith, c.requires.added_value.0, c.requires.page_lt_added.0) in
    record {
      vacancy = vacancy-at _ _ _ _ _ _ c.requires.moving room _ _ low c.requires.numbers_nonzero c.requires.numbers_value _ c.requires.added_value.0;
      places_in_bounds = page-fits _ _ _ c.requires.added_value.1 c.requires.moving.of_homes;
      page_bound = omega (arith, c.requires.added_value.1, (limits _ c.requires.parameters_value).pages_most);
    }

pub take_homed-requires : goal.take_homed-requires
take_homed-requires c =
    let room : page_count c.args.geometry.parameters c.args.geometry.growth < c.args.geometry.parameters.pages = omega (arith, c.requires.added_value.0, c.requires.added_value.1) in
    let low : c.args.page < page_count c.args.geometry.parameters c.args.geometry.growth = omega (arith, c.requires.added_value.0, c.requires.page_lt_added.0) in
    let put = c.put_homed.ensures in
    record {
      occupied = (still-occupied _ _ _ _ _ _ c.requires.moving room _ _ low c.requires.numbers_nonzero c.requires.numbers_value _ c.requires.added_value.0
          _ _ _ _ put.stands_on.of_numbers put.stands_on.of_words_lem put.stands_on.of_owners put.homes_after).0;
      places_in_bounds = (still-occupied _ _ _ _ _ _ c.requires.moving room _ _ low c.requires.numbers_nonzero c.requires.numbers_value _ c.requires.added_value.0
          _ _ _ _ put.stands_on.of_numbers put.stands_on.of_words_lem put.stands_on.of_owners put.homes_after).1;
    }

pub returns : goal.returns
returns c =
    let room : page_count c.args.geometry.parameters c.args.geometry.growth < c.args.geometry.parameters.pages = omega (arith, c.requires.added_value.0, c.requires.added_value.1) in
    let low : c.args.page < page_count c.args.geometry.parameters c.args.geometry.growth = omega (arith, c.requires.added_value.0, c.requires.page_lt_added.0) in
    let put = c.put_homed.ensures in
    let taken = c.take_homed.ensures in
    let all =
    stepped _ _ _ _ _ _ c.requires.moving room _ _ low c.requires.numbers_nonzero c.requires.numbers_value _ c.requires.added_value.0
    _ _ _ _ put.stands_on.of_numbers put.stands_on.of_words_lem put.stands_on.of_owners put.homes_after
    _ _ _ _ taken.stands_on.of_numbers taken.stands_on.of_words_lem taken.stands_on.of_owners taken.homes_after in
    record {
      stepped = record { underway = all.0; kept = all.1 };
      closed_up = all.2;
    }
