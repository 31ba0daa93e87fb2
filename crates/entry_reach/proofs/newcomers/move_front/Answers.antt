use Rattle.page_plan.proofs.Slots.{closed_up}
use Rattle.entry_reach.proofs.newcomers.move_front.Goals as goal

pub returns-clause-waiting_after : goal.returns-clause-waiting_after
returns-clause-waiting_after c = rw c.move_down.ensures (closed_up _ _ _ c.requires.0 c.requires.1)
