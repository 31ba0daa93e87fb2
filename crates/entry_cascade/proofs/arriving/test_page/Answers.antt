-- The homes of a known page are those that its test would tell.
use Prim.Native.Nat.{◌+◌, ◌*◌, ◌≤◌}
use native.Mathlib.Nat.{mul-le-mul}
use native.Mathlib.Omega.{arith}
use lib.ListN.{length}
use Rattle.hashing.proofs.Bounds.{limits}
use Rattle.pages.proofs.Parts.{page-fits}
use Rattle.entry_cascade.proofs.Loading.{known-tested}
use Rattle.entry_cascade.proofs.arriving.test_page.Goals as goal

pub overflow_mul-page : goal.overflow_mul-page
overflow_mul-page c =
    let inside : c.args.page * c.args.geometry.parameters.places + c.args.geometry.parameters.places ≤ length c.args.pool.now = page-fits _ _ _ c.requires.page_lt_pages c.requires.separators_len.1 in
    let l = limits _ c.requires.homing.valid in
    record { fits = omega (arith, inside, c.requires.separators_len.1, mul-le-mul l.pages_most l.places_most) }

pub copy-requires : goal.copy-requires
copy-requires c =
    let inside : c.args.page * c.args.geometry.parameters.places + c.args.geometry.parameters.places ≤ length c.args.pool.now = page-fits _ _ _ c.requires.page_lt_pages c.requires.separators_len.1 in
    record {
      in_bounds = omega (arith, (limits _ c.requires.homing.valid).places_most, c.requires.homes_len);
      in_bounds_2 = inside;
    }

pub returns-then-page-tested : goal.returns-then-page-tested
returns-then-page-tested c =
    let inside : c.args.page * c.args.geometry.parameters.places + c.args.geometry.parameters.places ≤ length c.args.pool.now = page-fits _ _ _ c.requires.page_lt_pages c.requires.separators_len.1 in
    rw c.copy.ensures
    (known-tested c.args.geometry c.args.separators.now c.args.page c.args.numbers.now c.args.words.now c.args.owners.now c.args.pool.now c.args.homes.now
    (c.requires.known_value c.if-page-tested.true) c.requires.homes_len (limits _ c.requires.homing.valid).places_most inside)

pub page_sound-requires : goal.page_sound-requires
page_sound-requires c =
    record {
      homing = c.requires.homing;
      separators_len = c.requires.separators_len.0;
      page_lt_pages = c.requires.page_lt_pages;
      numbers_len = c.requires.numbers_len;
      homes_len = c.requires.homes_len;
    }
