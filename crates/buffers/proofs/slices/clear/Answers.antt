use Prim.Native.Nat.{◌+◌, ◌*◌, ◌/◌}
use mathlib.Core.Path.{◌≡◌, sym}
use Rattle.buffers.proofs.Fills.{unfilled, filled-to, filled}
use native.Mathlib.Omega.{arith}
use lib.ListN.{length}
use Rattle.buffers.proofs.slices.clear.Goals as goal

pub loop-block-init : goal.loop-block-init
loop-block-init g c = unfilled _ _

pub loop-block-preserved : goal.loop-block-preserved
loop-block-preserved g c =
    let at = c.loop-block.block * 128 in
    let next : at + 128 ≡ (c.loop-block.block + 1) * 128 = omega arith in
    rw (sym next) (filled-to (at + 128) (omega arith) (omega arith) c.clear_block.ensures c.loop-block.invariant)

pub returns : goal.returns
returns g c =
    let done : c.loop-block.block ≡ length c.args.to.now / 128 = omega arith in
    filled (omega arith) (omega arith)
    (filled-to (length c.loop-block.to) (omega arith) (omega arith) (rw c.zero.ensures at c.fill.ensures) (rw done at c.loop-block.invariant))
