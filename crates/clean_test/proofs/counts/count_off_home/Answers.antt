-- Those of the first i numbers of the page are counted that passed a page.
use mathlib.Core.Path.{refl}
use Prim.Native.Nat.{◌+◌, ◌*◌, ◌<◌}
use native.Mathlib.Omega.{arith}
use lib.ListN.{length}
use Rattle.hashing.proofs.Bounds.{limits}
use Rattle.placement.specs.Hash.{hash_of}
use Rattle.calls.proofs.Spots.{item-within}
use Rattle.clean_test.proofs.Counters.{places-none, places-empty, places-star, places-counts, places-home, places-all, home-item}
use Rattle.clean_test.proofs.counts.count_off_home.Goals as goal
use Rattle.clean_test.proofs.counts.count_off_home.Goals.{then-number-ne0+then-home-page, then-number-ne0+else-home-page, else-number-ne0}

pub loop-i-init : goal.loop-i-init
loop-i-init c = places-none _ _ _ _ _ _ c.requires.counts.0

pub count_passed-requires-clause-page_in_bounds : goal.count_passed-requires-clause-page_in_bounds
count_passed-requires-clause-page_in_bounds c =
    let homed = c.requires.homed in
    (omega (arith, homed.separators, homed.high), omega (arith, homed.high, (limits c.args.geometry.parameters c.requires.signers.valid).pages_most))

pub count_passed-requires-clause-counts : goal.count_passed-requires-clause-counts
count_passed-requires-clause-counts c =
    places-counts _ _ _ _ _ _ 32800 65535 _ _ c.loop-i.invariant c.requires.counts (omega (arith, (limits c.args.geometry.parameters c.requires.signers.valid).places_most))

pub count_passed-requires-clause-home_value : goal.count_passed-requires-clause-home_value
count_passed-requires-clause-home_value c =
    let a = c.args in
    home-item a.geometry a.separators.now a.numbers.now a.homes.now a.page c.requires.homed c.loop-i.i c.loop-i-test.true c.if-number-ne0.true

pub loop-i-preserved : goal.loop-i-preserved
unfolding hash_of
loop-i-preserved c =
    let a = c.args in
    let p = a.geometry.parameters in
    let inside = c.loop-i-test.true in
    let long : a.page * p.places + c.loop-i.i < length a.numbers.now = omega (arith, item-within p.pages p.places a.page c.loop-i.i c.requires.homed.high inside, c.requires.homed.numbers) in
    elim c.if-number-ne0.branch [
      | then-number-ne0+then-home-page w ↦ rw w.counts-is (places-star _ _ _ _ _ _ _ _ c.loop-i.invariant inside long _ _ refl w.if-number-ne0.true w.count_passed.ensures)
      | then-number-ne0+else-home-page w ↦
          rw w.counts-is
          (places-home _ _ _ _ _ _ _ _ c.loop-i.invariant inside long _ refl w.if-number-ne0.true
          (omega (arith, home-item a.geometry a.separators.now a.numbers.now a.homes.now a.page c.requires.homed c.loop-i.i inside w.if-number-ne0.true, w.if-home-page.false)))
      | else-number-ne0 w ↦ rw w.counts-is (places-empty _ _ _ _ _ _ _ _ c.loop-i.invariant inside long w.if-number-ne0.false)
    ]

pub returns : goal.returns
unfolding hash_of
returns c = places-all _ _ _ _ _ _ _ _ c.loop-i.invariant c.loop-i-test.false
