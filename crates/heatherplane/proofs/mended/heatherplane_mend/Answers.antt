use Rattle.heatherplane.proofs.Telling.{told}
use Rattle.heatherplane.proofs.mended.heatherplane_mend.Goals as goal

pub returns : goal.returns
returns c =
    told _ c.reply_of.ensures c.record_of-growth.ensures c.placed_answer.ensures (rw c.record_of-growth.ensures at c.mend-answer.ensures.leaves)
