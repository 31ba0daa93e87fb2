use native.Mathlib.Omega.{arith}
use Rattle.call_due.proofs.Tallies.{counted_none, counted-empty, counted-star, counted-all}
use Rattle.call_due.proofs.load.occupied.Goals as goal
use Rattle.call_due.proofs.load.occupied.Goals.{then-number-eq0, else-number-eq0}

pub loop-number-init : goal.loop-number-init
loop-number-init c = counted_none _

pub loop-number-preserved : goal.loop-number-preserved
loop-number-preserved c =
    elim c.if-number-eq0.branch [
      | then-number-eq0 w ↦ rw w.empty-is (counted-empty _ _ _ c.loop-number.invariant (omega arith) w.if-number-eq0.true)
      | else-number-eq0 w ↦ rw w.empty-is (counted-star _ _ _ c.loop-number.invariant (omega arith) w.if-number-eq0.false)
    ]

pub returns : goal.returns
returns c = counted-all _ _ _ c.loop-number.invariant (omega arith)
