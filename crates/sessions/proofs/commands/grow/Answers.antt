use mathlib.Core.Path.{ap, ◌∙◌}
use Rattle.calls.specs.declared.records.GrowthRecord.{GrowthRecord}
use Rattle.calls.specs.Answers.{placed}
use Rattle.calls.specs.Records.{valid_steps, grow_under}
use Rattle.sessions.specs.Commands.{state_in, pool, commanded, placed_reply_lem, reply_with}
use Rattle.sessions.proofs.Replying.{follows}
use borrow.Author.Rules.{rules}
use Rattle.sessions.proofs.commands.grow.Goals as goal

pub returns : goal.returns
unfolding state_in pool commanded reply_with grow_under valid_steps
returns c =
    let leaves = rw c.parameters.ensures at c.grow-grown.ensures.leaves in
    let after = rw c.parameters.ensures at c.grow-grown.ensures.growth_after in
    follows _ _ _ (placed c.grow-grown.result.answer) _ leaves (ap (λ (r : GrowthRecord). r.state) after)
    (c.placed_reply.ensures ∙ ap placed_reply_lem c.placed_answer.ensures)
