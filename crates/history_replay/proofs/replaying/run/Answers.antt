-- `history_replay::replaying::run` meets its contract. The invariant: the first i calls are run, and every slice has its length.
use mathlib.Core.Path.{◌≡◌, ◌∙◌}
use Prim.Native.Nat.{◌-◌}
use native.Mathlib.Omega.{arith}
use borrow.Author.Rules.{rules}
use lib.IntN.{pos}
use lib.ListN.{length, get_or}
use mir.Syntax.{w32}
use mir.Val.{to_z, of_z}
use mir.Facts.{to_z-of_z}
use Rattle.calls.specs.Answers.{lent, pooled}
use Rattle.history_replay.specs.Replay.{lent_history}
use Rattle.history_replay.proofs.Running.{Ongoing, SameLengths, same-lengths, ongoing_none, ongoing_more, ongoing_all}
use Rattle.history_replay.proofs.replaying.run.Goals as goal

pub loop-i-init : goal.loop-i-init
loop-i-init c = ongoing_none _ _ _ _ _ _

pub loop-i-preserved : goal.loop-i-preserved
loop-i-preserved c =
    let decs = c.args.decs.now in
    let i = c.loop-i.i in
    let back : to_z w32 (of_z w32 (get_or decs i (pos 0))) ≡ get_or decs i (pos 0) = to_z-of_z {w = w32} {z = get_or decs i (pos 0)} (search rules) in
    ongoing_more _ _ _ _ _ _ _ _ _ _ _ c.loop-i.invariant c.loop-i-test.true _ _ _ _ (rw back at c.replay_step-state.ensures)

pub returns : goal.returns
returns c = ongoing_all _ _ _ _ _ _ _ _ _ _ _ c.loop-i.invariant c.loop-i-test.false c.requires
