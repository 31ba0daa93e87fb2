-- `homes::lanes::ranks` meets its contract. The invariant: the first i places are filled.
use mathlib.Core.Path.{◌≡◌}
use mathlib.Core.List.{◌++◌}
use lib.ListN.{get_or, drop}
use Rattle.hashing.specs.Geometry.{rank}
use Rattle.homes.specs.Indexed.{lanes}
use Rattle.homes.proofs.lanes.ranks.Given as goal

abbrev pub invariant-loop-i : goal.invariant-loop-i
invariant-loop-i l = l.orders ≡ lanes l.i (λ j. rank l.sweep.step l.stage.count (get_or l.groups j 0)) ++ drop l.i l.initial.orders
