-- `soundness::star_homes::spread` meets its contract.
use lib.ListN.{take, drop}
use Rattle.soundness.proofs.Stars.{Spreading}
use Rattle.soundness.proofs.star_homes.spread.Given as goal

abbrev pub invariant-loop-i : goal.invariant-loop-i
invariant-loop-i l = Spreading l.found (take l.items (drop l.first l.numbers)) l.initial.homes l.to l.i l.homes l.taken
