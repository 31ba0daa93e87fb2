use mathlib.Core.Path.{ap, ◌∙◌}
use Rattle.calls.specs.Records.{valid_steps, look_up_under}
use Rattle.sessions.specs.Commands.{state_in, commanded, found_reply_lem, reply_with, reply_to}
use borrow.Author.Rules.{rules}
use Rattle.sessions.proofs.commands.look_up.Goals as goal

pub returns : goal.returns
unfolding state_in commanded reply_with reply_to look_up_under valid_steps
returns c =
    let looked = rw c.parameters.ensures at c.look_up-found.ensures.answer in
    c.found_reply.ensures ∙ ap found_reply_lem (c.sought_answer.ensures ∙ looked)
