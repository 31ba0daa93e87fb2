use Rattle.buffers.proofs.Fills.{unfilled, filled_next, filled}
use native.Mathlib.Omega.{arith}
use Rattle.buffers.proofs.slices.fill.Goals as goal

pub loop-i-init : goal.loop-i-init
loop-i-init g c = unfilled _ _

pub loop-i-preserved : goal.loop-i-preserved
loop-i-preserved g c = filled_next (omega arith) c.loop-i.invariant

pub returns : goal.returns
returns g c = filled (omega arith) (omega arith) c.loop-i.invariant
