-- `homes::lanes::ranks` meets its contract. The invariant: the first i places are filled.
use Rattle.std.proofs.Common.{arith}
use Rattle.homes.proofs.Lists.{lane-none, lane-next}
use Rattle.homes.proofs.lanes.ranks.Goals as goal

pub loop-i-init : goal.loop-i-init
loop-i-init c = lane-none _ _

pub loop-i-preserved : goal.loop-i-preserved
loop-i-preserved c = lane-next _ _ _ _ _ (omega (arith, c.requires.orders_len)) c.loop-i.invariant c.ranked.ensures
