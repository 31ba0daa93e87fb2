use Rattle.heatherplane.proofs.trays.filed_reply.Goals as goal

pub returns : goal.returns
returns c = rw c.placed_answer-answer.ensures
