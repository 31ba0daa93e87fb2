-- `starfits::list_all` meets its contract.
use native.Mathlib.Omega.{arith}
use Rattle.starfits.proofs.Keeping.{parts_begun, parts_grown, parts_ended}
use Rattle.starfits.proofs.list_all.Goals as goal

pub loop-part-init : goal.loop-part-init
loop-part-init g c = parts_begun _ _

pub loop-part-preserved : goal.loop-part-preserved
loop-part-preserved g c = parts_grown _ _ _ _ _ c.loop-part.invariant c.in_ok-list_part.ensures

pub returns : goal.returns
returns g c = parts_ended _ _ _ _ c.loop-part.invariant (omega arith)
