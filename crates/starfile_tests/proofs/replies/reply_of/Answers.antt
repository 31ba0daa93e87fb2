use borrow.Author.Rules.{rules}
use Rattle.starfile_tests.proofs.replies.reply_of.Goals as goal

pub returns : goal.returns
returns c = rw c.placed_answer-answer.ensures (search rules)
