-- `heatherplane::trays::heatherplane_add_report` meets its contract.
use Rattle.heatherplane.proofs.Reported.{told-added}
use Rattle.heatherplane.proofs.trays.heatherplane_add_report.Goals as goal

pub returns : goal.returns
returns c = told-added _ _ c.added_reply.ensures (rw c.asked_of-asked.ensures at c.add-added.ensures.leaves)
