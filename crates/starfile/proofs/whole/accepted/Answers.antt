-- `starfile::whole::accepted` meets its contract.
use Rattle.starfile.proofs.Steps.{on-accepted, refused-not}
use Rattle.starfile.proofs.whole.accepted.Goals as goal

pub returns-in-On : goal.returns-in-On
returns-in-On c = on-accepted c.in-On.is

pub returns-in-Refused : goal.returns-in-Refused
returns-in-Refused c = refused-not c.in-Refused.is
