-- `history_replay::calling::replay_step` meets its contract.
use Rattle.history_replay.proofs.Stepping.{recorded}
use native.Mathlib.Omega.{arith}
use borrow.Author.Rules.{rules}
use Rattle.history_replay.proofs.calling.replay_step.Goals as goal

pub write-requires : goal.write-requires
write-requires c = omega (arith, c.requires)

pub returns : goal.returns
returns c =
    recorded _ _ _ _ _ _ _
    c.run_call-stepped.ensures
    c.write.ensures
