-- `homes::scalars::hit` meets its contract.
use Prim.Native.Nat.{◌%◌}
use borrow.Author.Tests.{le-leb, lt-leb}
use borrow.Author.Rules.{rules}
use Rattle.generator.specs.Generator.{modulus}
use Rattle.homes.specs.Lanes.{hit_of}
use Rattle.homes.proofs.Numbers.{passes, fails}
use Rattle.homes.proofs.scalars.hit.Goals as goal

pub returns-then-next-most : goal.returns-then-next-most
unfolding hit_of
returns-then-next-most c =
    let at = c.before in
    let start = at.before in
    rw (
      ← at.near.ensures.0,
      le-leb (at.near.result % modulus) start.args.most (passes at.near.result start.args.most at.near.ensures.1 c.if-next-most.true),
    )

pub returns : goal.returns
unfolding hit_of
returns c =
    let at = c.before in
    let start = at.before in
    rw (
      ← at.near.ensures.0,
      lt-leb (at.near.result % modulus) start.args.most (fails at.near.result start.args.most at.near.ensures.1 c.if-next-most.false),
    )
