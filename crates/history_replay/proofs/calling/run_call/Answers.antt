-- `history_replay::calling::run_call` meets its contract. Each kind's call, by the law of its step.
use mathlib.Core.Path.{◌∙◌, refl}
use Rattle.history_replay.proofs.Stepping.{look_up_steps, change_steps, due_steps, pooled-steps}
use borrow.Author.Rules.{rules}
use Rattle.history_replay.proofs.calling.run_call.Goals as goal

pub returns-then-kind-eq0 : goal.returns-then-kind-eq0
returns-then-kind-eq0 c =
    rw c.unmoved.ensures
    (look_up_steps _ _ _ _ _ _ _ _ _ c.if-kind-eq0.true (c.sought_answer.ensures ∙ c.look_up-found.ensures.answer))

pub returns-then-kind-eq2 : goal.returns-then-kind-eq2
returns-then-kind-eq2 c =
    rw c.unmoved-then-kind-eq2.ensures
    (change_steps _ _ _ _ _ _ _ _ _ _ c.placed_answer.ensures _ c.if-kind-eq2.true c.change-changed.ensures.leaves)

pub returns-then-kind-eq5 : goal.returns-then-kind-eq5
returns-then-kind-eq5 c =
    rw c.unmoved-then-kind-eq5.ensures
    (due_steps _ _ _ _ _ _ _ _ _ c.if-kind-eq5.true (c.due_answer.ensures ∙ c.due-due.ensures.answer))

pub returns : goal.returns
returns c =
    pooled-steps _ _ _ _ _ _ _ _ _ _ _ c.if-kind-eq0.false c.if-kind-eq2.false c.if-kind-eq5.false c.run_pooled.ensures
