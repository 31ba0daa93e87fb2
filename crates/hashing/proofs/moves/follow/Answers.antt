-- `hashing::follow` meets its contract. The invariant: the page with that code and order is reached after `next-index` steps.
use Rattle.std.proofs.Common.{arith, add-one}
use Rattle.hashing.proofs.Bounds.{limits}
use Rattle.hashing.proofs.Codes.{reached-start, reached-next, reached-end}
use Rattle.hashing.proofs.moves.follow.Goals as goal

pub overflow_cast-groups : goal.overflow_cast-groups
overflow_cast-groups c = omega (arith, (limits _ c.requires.parameters_value).groups_most)

pub loop-next-init : goal.loop-next-init
loop-next-init c = reached-start _ _ _ (limits _ c.requires.parameters_value) c.requires.start_bound c.requires.narrow_rising

pub loop-next-preserved : goal.loop-next-preserved
loop-next-preserved c =
    rw (c.moved-order.ensures, add-one)
    (reached-next _ _ _ _ _ _ (limits _ c.requires.parameters_value) c.loop-next-test.true c.loop-next.invariant)

pub returns : goal.returns
returns c = reached-end _ _ _ _ _ c.loop-next.next-index (omega arith) c.loop-next.invariant
