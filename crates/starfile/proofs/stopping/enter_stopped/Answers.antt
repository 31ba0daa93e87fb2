-- `starfile::stopping::enter_stopped` meets its contract.
use mathlib.Core.Path.{ap}
use Rattle.hashing.proofs.Bounds.{passed, failed}
use Rattle.calls.specs.Stores.{enter_stopped_under}
use Rattle.call_guard.proofs.Turned.{in_turn_lem}
use mathlib.Core.Bool.{not}
use Rattle.starfile.proofs.stopping.enter_stopped.Goals as goal

pub turn_away-requires : goal.turn_away-requires
turn_away-requires c = failed _ _ c.at_rest.ensures (ap not c.if-not-at_rest.true)

pub returns-then-not-at_rest : goal.returns-then-not-at_rest
unfolding enter_stopped_under
returns-then-not-at_rest c = record { leaves = c.turn_away.ensures _ }

pub returns : goal.returns
unfolding enter_stopped_under
returns c = record { leaves = rw (in_turn_lem _ _ _ _ _ _ (passed _ _ c.at_rest.ensures (ap not c.if-not-at_rest.false))) c.enter_stopped.ensures }
