-- `homes::lanes::groups_of` meets its contract. The invariant: the first i places are filled.
use mathlib.Core.Path.{◌≡◌}
use mathlib.Core.List.{◌++◌}
use Prim.Native.Nat.{◌%◌}
use lib.ListN.{get_or, drop}
use Rattle.homes.specs.Indexed.{lanes}
use Rattle.homes.proofs.lanes.groups_of.Given as goal

abbrev pub invariant-loop-i : goal.invariant-loop-i
invariant-loop-i l = l.groups ≡ lanes l.i (λ j. get_or l.pages j 0 % l.count) ++ drop l.i l.initial.groups
