-- If none of the items before i is counted, none is homed below `low`.
use mathlib.Core.Path.{◌≡◌}
use Prim.Native.Nat.{◌≤◌}
use Rattle.clean_test.specs.Raising.{HomedFrom}
use Rattle.clean_test.proofs.counts.count_below.Given as goal

abbrev pub invariant-loop-i : goal.invariant-loop-i
invariant-loop-i l = (l.below ≤ l.i) × (l.below ≡ 0 → HomedFrom l.low l.numbers l.homes l.first l.i)
