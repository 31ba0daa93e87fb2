use Rattle.heatherplane.proofs.Telling.{told}
use Rattle.heatherplane.proofs.reading.heatherplane_check.Goals as goal

pub returns : goal.returns
returns c =
    told _ c.reply_of.ensures c.record_of-growth.ensures c.checked_answer.ensures (rw c.record_of-growth.ensures at c.check-answer.ensures.leaves)
