use mathlib.Core.Path.{sym, ap, ◌∙◌}
use Rattle.calls.specs.Answers.{placed}
use Rattle.calls.specs.Records.{valid_steps, enter_under}
use Rattle.sessions.specs.Commands.{state_in, pool, commanded, placed_reply_lem, reply_with}
use Rattle.sessions.proofs.Replying.{enter_keeps, follows}
use borrow.Author.Rules.{rules}
use Rattle.sessions.proofs.commands.enter.Goals as goal

pub returns : goal.returns
unfolding state_in pool commanded reply_with enter_under valid_steps
returns c =
    follows _ _ _ (placed c.enter-answer.result) _
    (rw c.parameters.ensures at c.enter-answer.ensures.leaves)
    (sym (enter_keeps _ _ _ _ _ _ _))
    (c.placed_reply.ensures ∙ ap placed_reply_lem c.placed_answer.ensures)
