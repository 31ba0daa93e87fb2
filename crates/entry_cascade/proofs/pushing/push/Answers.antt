-- A page with an empty last place has room.
use Prim.Native.Nat.{◌+◌, ◌*◌, ◌≤◌, ◌<◌}
use native.Mathlib.Omega.{arith}
use lib.ListN.{length}
use Rattle.hashing.proofs.Bounds.{Limits, limits}
use Rattle.pages.proofs.Parts.{page-fits}
use Rattle.placement.specs.Hash.{lent}
use Rattle.entry_cascade.proofs.Loading.{page-few}
use Rattle.entry_reach.proofs.Pushed.{page-inside}
use Rattle.entry_cascade.proofs.pushing.push.Goals as goal

pub overflow_mul-page : goal.overflow_mul-page
overflow_mul-page c =
    let inside : c.args.page < c.args.geometry.parameters.pages = page-inside c.args.geometry.parameters c.args.geometry.growth (lent c.args.separators.now c.args.numbers.now c.args.words.now c.args.owners.now) c.args.number c.args.page c.requires.enters.ready.homing.valid c.requires.enters.ready.sized c.requires.enters.number c.requires.enters.unheld c.requires.enters.here in
    let few : c.args.page * c.args.geometry.parameters.places + c.args.geometry.parameters.places < 65536 = page-few c.args.geometry.parameters c.args.geometry.growth (lent c.args.separators.now c.args.numbers.now c.args.words.now c.args.owners.now) c.requires.enters.ready.homing.valid c.requires.enters.ready.sized c.args.page inside in
    record { fits = omega (arith, few) }

pub overflow_add-page : goal.overflow_add-page
overflow_add-page c =
    let inside : c.args.page < c.args.geometry.parameters.pages = page-inside c.args.geometry.parameters c.args.geometry.growth (lent c.args.separators.now c.args.numbers.now c.args.words.now c.args.owners.now) c.args.number c.args.page c.requires.enters.ready.homing.valid c.requires.enters.ready.sized c.requires.enters.number c.requires.enters.unheld c.requires.enters.here in
    let few : c.args.page * c.args.geometry.parameters.places + c.args.geometry.parameters.places < 65536 = page-few c.args.geometry.parameters c.args.geometry.growth (lent c.args.separators.now c.args.numbers.now c.args.words.now c.args.owners.now) c.requires.enters.ready.homing.valid c.requires.enters.ready.sized c.args.page inside in
    omega (arith, few)

pub overflow_sub-page : goal.overflow_sub-page
overflow_sub-page c =
    let bounds : Limits c.args.geometry.parameters = limits c.args.geometry.parameters c.requires.enters.ready.homing.valid in
    omega (arith, bounds.places_least)

pub offset_bounds-numbers-page : goal.offset_bounds-numbers-page
offset_bounds-numbers-page c =
    let inside : c.args.page < c.args.geometry.parameters.pages = page-inside c.args.geometry.parameters c.args.geometry.growth (lent c.args.separators.now c.args.numbers.now c.args.words.now c.args.owners.now) c.args.number c.args.page c.requires.enters.ready.homing.valid c.requires.enters.ready.sized c.requires.enters.number c.requires.enters.unheld c.requires.enters.here in
    let few : c.args.page * c.args.geometry.parameters.places + c.args.geometry.parameters.places < 65536 = page-few c.args.geometry.parameters c.args.geometry.growth (lent c.args.separators.now c.args.numbers.now c.args.words.now c.args.owners.now) c.requires.enters.ready.homing.valid c.requires.enters.ready.sized c.args.page inside in
    omega (arith, few)

pub bounds-numbers-page : goal.bounds-numbers-page
bounds-numbers-page c =
    let bounds : Limits c.args.geometry.parameters = limits c.args.geometry.parameters c.requires.enters.ready.homing.valid in
    let inside : c.args.page < c.args.geometry.parameters.pages = page-inside c.args.geometry.parameters c.args.geometry.growth (lent c.args.separators.now c.args.numbers.now c.args.words.now c.args.owners.now) c.args.number c.args.page c.requires.enters.ready.homing.valid c.requires.enters.ready.sized c.requires.enters.number c.requires.enters.unheld c.requires.enters.here in
    let fits : c.args.page * c.args.geometry.parameters.places + c.args.geometry.parameters.places ≤ length c.args.numbers.now = page-fits _ _ _ inside c.requires.enters.ready.sized.of_numbers in
    omega (arith, fits, bounds.places_least)

pub fill_page-requires : goal.fill_page-requires
fill_page-requires c =
    record {
      enters = c.requires.enters;
      pool_len = c.requires.pool_len;
      pages_in_bounds = c.requires.pages_in_bounds;
      places_value = c.if-numbers-page-eq0.true;
    }

pub returns-then-numbers-page-eq0 : goal.returns-then-numbers-page-eq0
returns-then-numbers-page-eq0 c = c.fill_page.ensures

pub push_along-requires : goal.push_along-requires
push_along-requires c =
    record {
      enters = c.requires.enters;
      pool_len = c.requires.pool_len;
      pages_in_bounds = c.requires.pages_in_bounds;
      known_to = c.requires.known_to;
    }

pub returns : goal.returns
returns c = c.push_along.ensures
