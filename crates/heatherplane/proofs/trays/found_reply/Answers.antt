use Rattle.heatherplane.proofs.trays.found_reply.Goals as goal

pub returns : goal.returns
returns c = rw c.sought_answer.ensures at c.reply_of.ensures
