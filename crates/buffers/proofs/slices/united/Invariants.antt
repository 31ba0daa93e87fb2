use Rattle.std.proofs.Common.{◌≡◌}
use Rattle.buffers.proofs.Zeros.{AllOf}
use Rattle.buffers.proofs.slices.united.Given as goal

abbrev pub invariant-loop-item : goal.invariant-loop-item
invariant-loop-item g l = l.all ≡ g.T.Zeroed.zero → AllOf g.T.Zeroed.zero l.items l.item-index
