use Rattle.sessions.specs.Commands.{placed_reply_lem}
use borrow.Author.Rules.{rules}
use Rattle.sessions.proofs.commands.placed_reply.Goals as goal

pub returns : goal.returns
unfolding placed_reply_lem
returns c = c.unless_refused.ensures
