-- `starline::answer_all` meets its contract.
use native.Mathlib.Omega.{arith}
use Prim.Native.Nat.{◌≤◌}
use lib.ListN.{length}
use borrow.Author.Rules.{rules}
use Rattle.lines.proofs.Streams.{put_is, serves_all}
use Rattle.sessions.specs.Commands.{answering}
use Rattle.starline.proofs.answer_all.Goals as goal

pub returns : goal.returns
unfolding answering
returns g c =
    let within : c.finish-at.result ≤ length c.finish-at.new.out = search rules in
    serves_all answering _ _ _ _ _ _ _ c.start.ensures c.in_ok-session.ensures.serves c.in_ok-session.ensures.end
    (put_is _ _ _ _ _ _ c.finish-at.ensures.0 (omega (arith, within, c.finish-at.auto.out)) c.in_ok-write_all.ensures.bytes)
