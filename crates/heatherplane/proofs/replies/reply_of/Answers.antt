use borrow.Author.Rules.{rules}
use Rattle.heatherplane.proofs.replies.reply_of.Goals as goal

pub returns : goal.returns
returns c = rw c.growth_of-growth.ensures (search rules)
