use Rattle.heatherplane.proofs.Telling.{told-step}
use Rattle.heatherplane.proofs.opened.heatherplane_open_growth.Goals as goal

pub returns : goal.returns
returns c =
    told-step _ c.recorded.ensures (rw c.record_of-growth.ensures at c.open_growth-answer.ensures.leaves)
