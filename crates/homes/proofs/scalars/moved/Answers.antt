-- `homes::scalars::moved` meets its contract.
use borrow.Author.Tests.{eq-eqb, ne_eqb, le-leb, lt-leb}
use native.Mathlib.Omega.{arith}
use borrow.Author.Rules.{rules}
use Rattle.homes.specs.Lanes.{moved_by_lem}
use Rattle.homes.proofs.scalars.moved.Goals as goal

pub returns-then-hit-eq0 : goal.returns-then-hit-eq0
unfolding moved_by_lem
returns-then-hit-eq0 c = let start = c.before in rw (eq-eqb start.args.hit 0 c.if-hit-eq0.true)

pub returns-then-limit-order : goal.returns-then-limit-order
unfolding moved_by_lem
returns-then-limit-order c = let start = c.before.before in rw (ne_eqb start.args.hit 0 c.if-hit-eq0.false, le-leb start.args.limit start.args.order (omega (arith, c.if-limit-order.true)))

pub returns : goal.returns
unfolding moved_by_lem
returns c = let start = c.before.before in rw (ne_eqb start.args.hit 0 c.if-hit-eq0.false, lt-leb start.args.limit start.args.order (omega (arith, c.if-limit-order.false)))
