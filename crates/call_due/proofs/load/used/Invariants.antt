use Rattle.call_due.specs.Used.{Blank}
use Rattle.call_due.proofs.load.used.Given as goal

abbrev pub invariant-loop-i : goal.invariant-loop-i
invariant-loop-i l = Blank l.numbers l.i
