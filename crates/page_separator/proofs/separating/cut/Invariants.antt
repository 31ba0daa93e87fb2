-- What is left is counted below v, and there is no room for what is counted up to v. Assumes nothing.
use Prim.Native.Nat.{◌+◌, ◌≤◌, ◌<◌}
use mathlib.Core.Path.{◌≡◌}
use Rattle.page_separator.specs.Lists.{sum_to}
use Rattle.page_separator.proofs.separating.cut.Given as goal

abbrev pub invariant-loop-below : goal.invariant-loop-below
invariant-loop-below l = (l.v ≤ l.top) × ((l.below ≡ sum_to l.v l.counts) × (l.v < l.top → l.room < sum_to (l.v + 1) l.counts))

abbrev pub decreases-loop-below : goal.decreases-loop-below
decreases-loop-below l = l.v
