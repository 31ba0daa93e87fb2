use Rattle.heatherplane.proofs.Telling.{told-step}
use Rattle.heatherplane.proofs.carried.heatherplane_carry.Goals as goal

pub returns : goal.returns
returns c =
    told-step _ c.recorded.ensures (rw (c.record_of-newgrowth.ensures, c.record_of-growth.ensures) at c.carry-answer.ensures.leaves)
