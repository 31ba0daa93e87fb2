use Rattle.heatherplane.proofs.Telling.{told-table}
use Rattle.heatherplane.proofs.tables.heatherplane_write_table.Goals as goal

pub returns : goal.returns
returns c =
    told-table _ c.reply_of.ensures c.record_of-growth.ensures c.written_answer.ensures (rw c.record_of-growth.ensures at c.write_table-answer.ensures.leaves)
