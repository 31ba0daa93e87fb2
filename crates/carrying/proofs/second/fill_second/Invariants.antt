-- What the sources before i name is written. Assumes nothing.
use Rattle.carrying.proofs.Carried.{Named}
use Rattle.carrying.proofs.second.fill_second.Given as goal

abbrev pub invariant-loop-i : goal.invariant-loop-i
invariant-loop-i l = record {
  numbers : Named l.oldnumbers l.pool l.initial.secondnumbers l.secondnumbers l.i;
  words : Named l.oldwords l.pool l.initial.secondwords l.secondwords l.i;
  owners : Named l.oldowners l.pool l.initial.secondowners l.secondowners l.i;
}
