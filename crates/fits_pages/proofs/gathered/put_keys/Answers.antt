use Rattle.std.proofs.Common.{arith}
use Rattle.buffers.proofs.Copies.{none, done}
use Rattle.fits_pages.proofs.RowKeys.{keys_turn}
use Rattle.fits_pages.proofs.gathered.put_keys.Goals as goal

pub loop-i-init : goal.loop-i-init
loop-i-init c = none _ _ _

pub loop-i-preserved : goal.loop-i-preserved
loop-i-preserved c =
    keys_turn _ _ _ c.args.first c.loop-i.i _ (omega arith) (omega arith) (rw c.from.ensures) c.loop-i.invariant

pub returns : goal.returns
returns c = done c.args.count (omega arith) (omega arith) c.loop-i.invariant
