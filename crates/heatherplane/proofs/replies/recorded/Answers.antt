use Rattle.heatherplane.proofs.replies.recorded.Goals as goal

pub returns : goal.returns
returns c = rw c.placed_answer.ensures at c.reply_of.ensures
