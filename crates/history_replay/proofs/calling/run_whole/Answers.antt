-- `history_replay::calling::run_whole` meets its contract. Each kind's call, by the law of its step.
use mathlib.Core.Path.{refl}
use Rattle.history_replay.proofs.Stepping.{grow_steps, shrink_steps, check_steps}
use borrow.Author.Rules.{rules}
use Rattle.history_replay.proofs.calling.run_whole.Goals as goal

pub returns-then-kind-eq4 : goal.returns-then-kind-eq4
returns-then-kind-eq4 c =
    rw c.unmoved.ensures
    (grow_steps _ _ _ _ _ _ _ c.placed_answer.ensures _ _ c.if-kind-eq4.true _
    c.grow-grown.ensures.growth_after
    c.grow-grown.ensures.leaves)

pub returns-then-kind-eq7 : goal.returns-then-kind-eq7
returns-then-kind-eq7 c =
    rw c.unmoved-then-kind-eq7.ensures
    (shrink_steps _ _ _ _ _ _ _ c.placed_answer-then-kind-eq7.ensures _ _ c.if-kind-eq7.true _
    c.shrink-shrunk.ensures.growth_after
    c.shrink-shrunk.ensures.leaves)

pub returns : goal.returns
returns c =
    rw c.unmoved-2.ensures
    (check_steps _ _ _ _ _ _ _ c.checked_answer.ensures _ _ c.if-kind-eq4.false c.if-kind-eq7.false c.check-checked.ensures.leaves)
