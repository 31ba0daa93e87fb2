-- `homes::stages::limit` meets its contract.
use borrow.Author.Tests.{lt-ltb, le-ltb}
use borrow.Author.Rules.{rules}
use Rattle.homes.specs.Stages.{limit_at}
use Rattle.homes.proofs.Prepared.{stage_count}
use Rattle.homes.proofs.stages.limit.Goals as goal

pub returns-then-i-geometry : goal.returns-then-i-geometry
unfolding limit_at
returns-then-i-geometry c =
    let s = c.before.before in
    rw (lt-ltb s.args.i s.args.geometry.growth.expansions c.if-i-geometry.true)
    (stage_count s.args.geometry.parameters s.args.i s.args.stage s.requires.stage_value)

pub returns : goal.returns
unfolding limit_at
returns c = let s = c.before.before.before in rw (le-ltb s.args.i s.args.geometry.growth.expansions c.if-i-geometry.false)
