use Rattle.heatherplane.proofs.Telling.{told-recorded}
use Rattle.heatherplane.proofs.growing.heatherplane_shrink.Goals as goal

pub returns : goal.returns
returns c =
    told-recorded _ c.recorded.ensures (rw c.record_of-growth.ensures at c.shrink-answer.ensures.leaves) (rw c.record_of-growth.ensures at c.shrink-answer.ensures.growth_after)
