-- `homes::lanes::moves` meets its contract. The invariant: the first i places are moved, and the others are as they were.
use mathlib.Core.Path.{◌≡◌}
use mathlib.Core.List.{◌++◌}
use lib.ListN.{get_or, drop}
use Rattle.homes.specs.Lanes.{moved_by_lem}
use Rattle.homes.specs.Indexed.{lanes}
use Rattle.homes.proofs.lanes.moves.Given as goal

abbrev pub invariant-loop-i : goal.invariant-loop-i
invariant-loop-i l = l.old ≡ lanes l.i (λ j. moved_by_lem l.limit l.first (get_or l.hits j 0) (get_or l.orders j 0) (get_or l.initial.old j 0)) ++ drop l.i l.initial.old
