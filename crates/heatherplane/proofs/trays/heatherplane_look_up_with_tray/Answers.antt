-- `heatherplane::trays::heatherplane_look_up_with_tray` meets its contract.
use Rattle.heatherplane.proofs.trays.heatherplane_look_up_with_tray.Goals as goal

pub returns : goal.returns
returns c = rw (c.look_up-found.ensures.answer, c.asked_of-asked.ensures) at c.found_reply.ensures
