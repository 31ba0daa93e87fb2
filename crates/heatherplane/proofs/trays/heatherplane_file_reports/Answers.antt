-- `heatherplane::trays::heatherplane_file_reports` meets its contract.
use Rattle.heatherplane.proofs.Reported.{told-filed}
use Rattle.heatherplane.proofs.trays.heatherplane_file_reports.Goals as goal

pub returns : goal.returns
returns c = told-filed _ _ c.filed_reply.ensures (rw c.asked_of-asked.ensures at c.file_tray-filing.ensures.leaves)
