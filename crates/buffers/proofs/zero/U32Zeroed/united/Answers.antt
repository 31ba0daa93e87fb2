use Rattle.buffers.proofs.Zeros.{or_none}
use Rattle.buffers.proofs.zero.U32Zeroed.united.Goals as goal

pub returns : goal.returns
returns c = λ e. or_none c.args.self c.args.other e
