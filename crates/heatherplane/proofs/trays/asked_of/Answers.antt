use Rattle.heatherplane.proofs.trays.asked_of.Goals as goal

pub returns : goal.returns
returns c = rw c.record_of-kept.ensures
