-- `homes::passes::turn_all` meets its contract. The invariant: the blocks below `at` are stepped, and the others are as they were.
use Rattle.std.proofs.Common.{◌+◌, ◌≤◌, length, arith}
use Rattle.homes.proofs.Lists.{blocks-kept}
use Rattle.homes.proofs.Steps.{pages-length, groups-length, regrouped-next, paged-next}
use Rattle.homes.proofs.passes.turn_all.Goals as goal

pub loop-at-preserved : goal.loop-at-preserved
loop-at-preserved c =
    let was = c.loop-at.invariant in
    let groups = c.turn_at.ensures.groups_after in
    let pages = c.turn_at.ensures.pages_after in
    let gl : c.loop-at.at + 8 ≤ length c.loop-at.groups = omega (arith, was.0, was.1, c.requires.places_bound) in
    let pl : c.loop-at.at + 8 ≤ length c.loop-at.pages = omega (arith, was.0, was.1, c.requires.places_bound) in (
      omega (arith, was.0),
      (c.turn_at.array_long, c.turn_at.array_long2),
      (regrouped-next _ _ _ c.loop-at.groups _ c.loop-at.at was.0 gl groups was.2.0, paged-next _ _ _ c.loop-at.pages _ c.loop-at.at was.0 pl pages was.2.1),
      (
        blocks-kept c.loop-at.groups _ _ c.loop-at.at was.0 gl (groups-length _ _ _ _ _ _) groups _ was.3.0,
        blocks-kept c.loop-at.pages _ _ c.loop-at.at was.0 pl (pages-length _ _ _ _ _) pages _ was.3.1,
      ),
    )

pub returns-2-clause-blocks_4 : goal.returns-2-clause-blocks_4
returns-2-clause-blocks_4 c b m h =
    let was = c.loop-at.invariant in
    let fits : c.loop-at.at + 8 ≤ length c.loop-at.groups = omega (arith, was.0, was.1, c.requires.places_bound) in
    regrouped-next _ _ _ c.loop-at.groups _ c.loop-at.at was.0 fits c.turn_at.ensures.groups_after was.2.0 b m (omega arith)

pub returns-2-clause-blocks_5 : goal.returns-2-clause-blocks_5
returns-2-clause-blocks_5 c b m h =
    let was = c.loop-at.invariant in
    let fits : c.loop-at.at + 8 ≤ length c.loop-at.pages = omega (arith, was.0, was.1, c.requires.places_bound) in
    paged-next _ _ _ c.loop-at.pages _ c.loop-at.at was.0 fits c.turn_at.ensures.pages_after was.2.1 b m (omega arith)
