use Rattle.heatherplane.proofs.Telling.{told}
use mir.Facts.{to_z-of_z}
use Rattle.heatherplane.proofs.writing.heatherplane_change.Goals as goal

pub returns : goal.returns
returns c =
    told _ c.reply_of.ensures c.record_of-growth.ensures c.placed_answer.ensures (rw (c.record_of-growth.ensures, to_z-of_z c.ranges.dec) at c.change-answer.ensures.leaves)
