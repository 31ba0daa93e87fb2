use Rattle.heatherplane.proofs.Telling.{told}
use Rattle.heatherplane.proofs.tables.heatherplane_read_table.Goals as goal

pub returns : goal.returns
returns c =
    told _ c.reply_of.ensures c.record_of-growth.ensures c.placed_answer.ensures (rw c.record_of-growth.ensures at c.read_table-answer.ensures.leaves)
