use Rattle.heatherplane.proofs.Telling.{told-step}
use Rattle.heatherplane.proofs.opened.heatherplane_step_growth.Goals as goal

pub returns : goal.returns
returns c =
    told-step _ c.recorded.ensures (rw c.record_of-growth.ensures at c.step_growth-answer.ensures.leaves)
