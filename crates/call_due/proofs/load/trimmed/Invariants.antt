use lib.ListN.{length}
use Rattle.call_due.proofs.Tallies.{Trimmed}
use Rattle.call_due.proofs.load.trimmed.Given as goal

abbrev pub invariant-loop-front : goal.invariant-loop-front
invariant-loop-front l = Trimmed l.numbers l.rest

abbrev pub decreases-loop-front : goal.decreases-loop-front
decreases-loop-front l = length l.rest
