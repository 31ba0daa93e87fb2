-- What is left is counted below v, and there is no room for what is counted up to v. Assumes nothing.
use Prim.Native.Nat.{◌+◌, ◌<◌, ◌-◌}
use mathlib.Core.Path.{◌≡◌}
use native.Mathlib.Omega.{arith}
use lib.ListN.{get_or}
use Rattle.page_separator.specs.Lists.{sum_to}
use Rattle.page_separator.proofs.Counting.{sum-last, sum_mono, sum-some}
use Rattle.page_separator.proofs.separating.cut.Goals as goal
use Rattle.page_separator.proofs.separating.cut.Goals.{In-loop-below}

some : (k : In-loop-below) → 0 < k.loop-below.v
some k = sum-some k.loop-below.v k.args.room k.args.counts.now (omega arith)

last : (k : In-loop-below)
    → sum_to k.loop-below.v k.args.counts.now
    ≡ sum_to (k.loop-below.v - 1) k.args.counts.now + get_or k.args.counts.now (k.loop-below.v - 1) 0
last k = sum-last k.loop-below.v k.args.counts.now (some k)

pub loop-below-init : goal.loop-below-init
loop-below-init c = omega arith

pub overflow_sub-v : goal.overflow_sub-v
overflow_sub-v c = omega (arith, some c)

pub overflow_cast-below : goal.overflow_cast-below
overflow_cast-below c = omega arith

pub offset_bounds-counts-v : goal.offset_bounds-counts-v
offset_bounds-counts-v c = omega arith

pub bounds-counts-v : goal.bounds-counts-v
bounds-counts-v c = omega arith

pub overflow_cast-below-in-loop-below : goal.overflow_cast-below-in-loop-below
overflow_cast-below-in-loop-below c =
    let s = c.before.before.before.before.before in
    omega (arith, last c.before.before.before, sum_mono c.loop-below.v s.args.top s.args.counts.now (omega arith))

pub overflow_sub-below : goal.overflow_sub-below
overflow_sub-below c = omega (arith, last c.before.before.before)

pub loop-below-smaller : goal.loop-below-smaller
loop-below-smaller c = omega (arith, some c.before.before.before)

pub loop-below-preserved : goal.loop-below-preserved
loop-below-preserved c =
    let k = c.before.before.before.before in
    let same : k.loop-below.v - 1 + 1 ≡ k.loop-below.v = omega (arith, some c.before.before.before) in
    (omega arith, (omega (arith, last c.before.before.before), λ h. rw same (omega arith)))

pub returns : goal.returns
returns c = record {
  upper_bound = (omega arith, omega arith);
  room_bound = c.loop-below.invariant.1.1;
}
