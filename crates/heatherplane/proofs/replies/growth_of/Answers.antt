use Rattle.heatherplane.proofs.replies.growth_of.Goals as goal

pub returns : goal.returns
returns c = rw c.flag-growing.ensures
