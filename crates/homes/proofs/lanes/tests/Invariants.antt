-- `homes::lanes::tests` meets its contract. The invariant: the first i places are filled.
use mathlib.Core.Path.{◌≡◌}
use mathlib.Core.List.{◌++◌}
use lib.ListN.{get_or, drop}
use Rattle.homes.specs.Lanes.{hit_of}
use Rattle.homes.specs.Indexed.{lanes}
use Rattle.homes.proofs.lanes.tests.Given as goal

abbrev pub invariant-loop-i : goal.invariant-loop-i
invariant-loop-i l = l.hits ≡ lanes l.i (λ j. hit_of l.factor l.most (get_or l.keys j 0)) ++ drop l.i l.initial.hits
