use Rattle.buffers.proofs.Fills.{Filled}
use Rattle.buffers.proofs.slices.fill.Given as goal

abbrev pub invariant-loop-i : goal.invariant-loop-i
invariant-loop-i g l = Filled l.initial.to l.fn.value l.to l.i
