-- `soundness::star_homes::gather` meets its contract.
use lib.ListN.{drop}
use Rattle.soundness.proofs.Stars.{Taking}
use Rattle.soundness.proofs.star_homes.gather.Given as goal

abbrev pub invariant-loop-i : goal.invariant-loop-i
invariant-loop-i l = Taking (drop l.first l.numbers) l.i l.stars l.block
