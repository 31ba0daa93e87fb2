-- `history_replay::calling::run_pooled` meets its contract. Each kind's call, by the law of its step.
use borrow.Author.Tests.{eq-eqb, ne_eqb}
use Rattle.history_replay.proofs.Stepping.{entered-steps, cascaded-steps, remove_steps, whole-steps}
use borrow.Author.Rules.{rules}
use Rattle.history_replay.proofs.calling.run_pooled.Goals as goal
use Rattle.history_replay.proofs.calling.run_pooled.Goals.{then-kind-eq1-via-then-kind-eq1, then-kind-eq1-via-else-kind-eq1+then-kind-eq8}

pub returns-then-kind-eq1 : goal.returns-then-kind-eq1
returns-then-kind-eq1 c =
    elim c.then-kind-eq1.branch [
      | then-kind-eq1-via-then-kind-eq1 w ↦ entered-steps _ _ _ _ _ _ _ _ _ _ _ c.run_entry.ensures w.if-kind-eq1.true
      | then-kind-eq1-via-else-kind-eq1+then-kind-eq8 w ↦ cascaded-steps _ _ _ _ _ _ _ _ _ _ _ c.run_entry.ensures (eq-eqb _ _ w.if-kind-eq8.true)
    ]

pub returns-then-kind-eq3 : goal.returns-then-kind-eq3
returns-then-kind-eq3 c =
    rw c.unmoved.ensures
    (remove_steps _ _ _ _ _ _ _ _ _ _ c.placed_answer.ensures _ _ c.if-kind-eq3.true c.remove-removed.ensures.leaves)

pub returns : goal.returns
returns c =
    whole-steps _ _ _ _ _ _ _ _ _ _ _ c.if-kind-eq1.false (ne_eqb _ _ c.if-kind-eq8.false) c.if-kind-eq3.false c.run_whole.ensures
