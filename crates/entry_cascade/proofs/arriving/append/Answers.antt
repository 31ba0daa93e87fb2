-- The words appended and those of the items from i on are all.
use Prim.Native.Nat.{◌^◌}
use native.Mathlib.Omega.{arith}
use Rattle.entry_cascade.proofs.Appending.{appended_none, appended_skip, appended_inside, appended_star, appended_all, item-below}
use Rattle.entry_cascade.proofs.arriving.append.Goals as goal
use Rattle.entry_cascade.proofs.arriving.append.Goals.{then-number-ne0, else-number-ne0}

pub loop-i-init : goal.loop-i-init
loop-i-init c =
    appended_none c.args.places c.args.at c.args.numbers.now c.args.homes.now c.args.waiting.now c.args.end c.requires.numbers_in_bounds

pub pack-requires : goal.pack-requires
pack-requires c =
    let i = c.loop-i.i in record {
      home_bound = omega (arith, item-below 1024 c.args.places c.args.homes.now i c.requires.numbers_value.1 c.requires.places_in_bounds.1 c.loop-i-test.true);
      number_bound = item-below (2 ^ 31) c.args.places c.args.numbers.now i c.requires.numbers_value.0 c.requires.places_in_bounds.0 c.loop-i-test.true;
      source_bound = omega (arith, c.requires.places_bound.1, c.loop-i-test.true);
    }

pub bounds-waiting-reach : goal.bounds-waiting-reach
bounds-waiting-reach c =
    appended_inside c.args.places c.args.at c.args.numbers.now c.args.homes.now c.args.waiting.now c.args.end c.loop-i.waiting c.loop-i.reach c.loop-i.i c.loop-i.invariant c.requires.places_in_bounds.0 c.requires.places_in_bounds.1 c.loop-i-test.true c.if-number-ne0.true

pub loop-i-preserved : goal.loop-i-preserved
loop-i-preserved c =
    elim c.if-number-ne0.branch [
      | then-number-ne0 w ↦
          rw (w.waiting-is, w.reach-is)
          (appended_star c.args.places c.args.at c.args.numbers.now c.args.homes.now c.args.waiting.now c.args.end c.loop-i.waiting c.loop-i.reach c.loop-i.i c.loop-i.invariant c.requires.places_in_bounds.0 c.requires.places_in_bounds.1 c.loop-i-test.true w.if-number-ne0.true w.pack.result w.pack.ensures)
      | else-number-ne0 w ↦
          rw (w.waiting-is, w.reach-is)
          (appended_skip c.args.places c.args.at c.args.numbers.now c.args.homes.now c.args.waiting.now c.args.end c.loop-i.waiting c.loop-i.reach c.loop-i.i c.loop-i.invariant c.requires.places_in_bounds.0 c.requires.places_in_bounds.1 c.loop-i-test.true w.if-number-ne0.false)
    ]

pub returns : goal.returns
returns c =
    let all = appended_all c.args.places c.args.at c.args.numbers.now c.args.homes.now c.args.waiting.now c.args.end c.loop-i.waiting c.loop-i.reach c.loop-i.i c.loop-i.invariant c.requires.places_in_bounds.0 c.requires.places_in_bounds.1 (omega arith) (omega (arith, c.requires.numbers_in_bounds)) in
    record { value = all.0; waiting_after = all.1 }
