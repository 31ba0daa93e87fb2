use native.Mathlib.Omega.{arith}
use Rattle.call_due.proofs.Tallies.{blank-item}
use Rattle.call_due.proofs.load.used.Goals as goal

pub loop-i-preserved : goal.loop-i-preserved
loop-i-preserved c = blank-item _ _ c.loop-i.invariant (omega arith) c.if-numbers-i-ne0.false
