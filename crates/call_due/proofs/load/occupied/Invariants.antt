use Rattle.call_due.proofs.Tallies.{Counted}
use Rattle.call_due.proofs.load.occupied.Given as goal

abbrev pub invariant-loop-number : goal.invariant-loop-number
invariant-loop-number l = Counted l.numbers l.empty l.number-index
