-- `history_replay::calling::run_entry` meets its contract. Each kind's call, by the law of its step.
use Rattle.history_replay.proofs.Stepping.{enter_steps, cascade-steps}
use borrow.Author.Rules.{rules}
use Rattle.history_replay.proofs.calling.run_entry.Goals as goal

pub returns-then-kind-eq8 : goal.returns-then-kind-eq8
returns-then-kind-eq8 c =
    rw c.unmoved.ensures
    (cascade-steps _ _ _ _ _ _ _ _ _ _ c.placed_answer.ensures _ _ c.if-kind-eq8.true c.cascade-cascaded.ensures.leaves)

pub returns : goal.returns
returns c =
    rw c.unmoved-2.ensures
    (enter_steps _ _ _ _ _ _ _ _ _ _ c.placed_answer-2.ensures _ _ c.if-kind-eq8.false c.enter-entered.ensures.leaves)
