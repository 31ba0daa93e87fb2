use mathlib.Core.Path.{sym, ap, ◌∙◌}
use Rattle.calls.specs.Answers.{placed}
use Rattle.calls.specs.Records.{valid_steps, remove_under}
use Rattle.sessions.specs.Commands.{state_in, pool, commanded, placed_reply_lem, reply_with}
use Rattle.sessions.proofs.Replying.{remove_keeps, follows}
use borrow.Author.Rules.{rules}
use Rattle.sessions.proofs.commands.remove.Goals as goal

pub returns : goal.returns
unfolding state_in pool commanded reply_with remove_under valid_steps
returns c =
    follows _ _ _ (placed c.remove-answer.result) _
    (rw c.parameters.ensures at c.remove-answer.ensures.leaves)
    (sym (remove_keeps _ _ _ _ _ _))
    (c.placed_reply.ensures ∙ ap placed_reply_lem c.placed_answer.ensures)
