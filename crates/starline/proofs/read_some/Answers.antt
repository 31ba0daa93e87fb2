-- `starline::read_some` meets its contract.
use native.Mathlib.Omega.{arith}
use Prim.Native.Nat.{◌≤◌}
use lib.ListN.{length}
use borrow.Author.Rules.{rules}
use Rattle.lines.proofs.Streams.{serves_nothing, serves_block}
use Rattle.sessions.specs.Commands.{answering}
use Rattle.starline.proofs.read_some.Goals as goal

pub returns-then-n-eq0-clause-serves : goal.returns-then-n-eq0-clause-serves
returns-then-n-eq0-clause-serves g c = serves_nothing answering _ _ _ _ (rw c.if-n-eq0.true at c.in_ok-n.ensures.bytes.0)

pub returns-clause-serves : goal.returns-clause-serves
returns-clause-serves g c =
    let within : c.answer_block-answered.result.at ≤ length c.answer_block-answered.new.out = search rules in
    serves_block answering _ _ _ _ _ _ _ _ _ _ c.answer_block-answered.ensures.0
    (omega (arith, within, c.answer_block-answered.auto.out)) c.in_ok-n.ensures.bytes.0 c.in_ok-write_all.ensures.bytes
