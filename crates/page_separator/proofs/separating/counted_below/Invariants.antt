-- What is left is counted below v.
use Rattle.std.proofs.Common.{◌≡◌, ◌≤◌, ◌<◌}
use Rattle.page_separator.specs.Lists.{sum_to}
use Rattle.page_separator.proofs.separating.counted_below.Given as goal

abbrev pub invariant-loop-v : goal.invariant-loop-v
invariant-loop-v l = (l.below ≡ sum_to l.v l.counts) × (l.v < l.top → l.most ≤ l.v)
