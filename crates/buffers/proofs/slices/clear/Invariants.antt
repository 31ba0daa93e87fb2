use Rattle.std.proofs.Common.{◌*◌}
use Rattle.buffers.proofs.Fills.{Filled}
use Rattle.buffers.proofs.slices.clear.Given as goal

abbrev pub invariant-loop-block : goal.invariant-loop-block
invariant-loop-block g l = Filled l.initial.to g.T.Zeroed.zero l.to (l.block * 128)
