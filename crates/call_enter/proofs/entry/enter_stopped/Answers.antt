use Rattle.calls.specs.Stores.{enter_stopped_of}
use Rattle.call_enter.proofs.entry.enter_stopped.Goals as goal

pub returns : goal.returns
unfolding enter_stopped_of
returns c = c.enter_by.ensures
