-- `starline::read_all` meets its contract.
use Rattle.std.proofs.KnownBytes.{Consumes-nil}
use Rattle.lines.proofs.Streams.{serves_nothing, serves_then}
use Rattle.sessions.specs.Commands.{answering}
use Rattle.starline.proofs.read_all.Goals as goal

pub loop-init : goal.loop-init
loop-init g c = serves_nothing answering _ _ _ _ (Consumes-nil _)

pub returns-in_default-clause-serves : goal.returns-in_default-clause-serves
returns-in_default-clause-serves g c =
    serves_then answering _ _ _ _ _ _ _ _ _ c.loop.invariant (rw c.in_default.is at c.in_ok-turn.ensures.serves)

pub loop-preserved : goal.loop-preserved
loop-preserved g c =
    serves_then answering _ _ _ _ _ _ _ _ _ c.loop.invariant (rw c.in-Some.is at c.in_ok-turn.ensures.serves)
