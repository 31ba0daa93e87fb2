-- `homes::lanes::moves` meets its contract. The invariant: the first i places are moved, and the others are as they were.
use Rattle.std.proofs.Common.{◌<◌, ◌∙◌, ap, length, get_or, arith}
use Rattle.homes.specs.Lanes.{moved_by_lem}
use Rattle.homes.proofs.Lists.{lane-none, lane-next, lane-unread}
use Rattle.homes.proofs.lanes.moves.Goals as goal

pub loop-i-init : goal.loop-i-init
loop-i-init c = lane-none _ _

pub loop-i-preserved : goal.loop-i-preserved
loop-i-preserved c =
    let i = c.loop-i.i in
    let within : i < length c.args.old.now = omega (arith, c.requires.len) in
    let unread = lane-unread _ _ _ i within c.loop-i.invariant in
    lane-next _ _ _ _ _ within c.loop-i.invariant
    (c.moved.ensures ∙ ap (moved_by_lem c.args.limit c.args.first (get_or c.args.hits.now i 0) (get_or c.args.orders.now i 0)) unread)
