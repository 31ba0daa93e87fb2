-- `homes::lanes::starts` meets its contract. The invariant: the first i places are filled.
use mathlib.Core.Path.{◌≡◌}
use mathlib.Core.List.{◌++◌}
use Prim.Native.Nat.{◌*◌, ◌%◌}
use lib.ListN.{get_or, drop}
use Rattle.generator.specs.Generator.{modulus}
use Rattle.homes.specs.Indexed.{lanes}
use Rattle.homes.proofs.lanes.starts.Given as goal

abbrev pub invariant-loop-i : goal.invariant-loop-i
invariant-loop-i l = l.pages ≡ lanes l.i (λ j. l.factor * get_or l.keys j 0 % modulus % l.span) ++ drop l.i l.initial.pages
