use Rattle.heatherplane.proofs.Telling.{told-recorded}
use Rattle.heatherplane.proofs.growing.heatherplane_make.Goals as goal

pub returns : goal.returns
returns c =
    told-recorded _ c.recorded.ensures c.make.ensures.leaves c.make.ensures.growth_after
