-- Both states, then the multipliers.
use Rattle.hashing.proofs.Bounds.{passed, failed}
use Rattle.calls.specs.Carry.{carry_states, other_multiplier}
use mathlib.Core.Path.{ap}
use mathlib.Core.Bool.{not}
use Rattle.carrying.proofs.calling.states_valid.Goals as goal

pub returns-then-not-state_valid : goal.returns-then-not-state_valid
unfolding carry_states
returns-then-not-state_valid c = rw (failed _ _ c.state_valid.ensures (ap not c.if-not-state_valid.true))

pub returns-then-not-state_valid-2 : goal.returns-then-not-state_valid-2
unfolding carry_states
returns-then-not-state_valid-2 c = rw (passed _ _ c.state_valid.ensures (ap not c.if-not-state_valid.false), failed _ _ c.state_valid-2.ensures (ap not c.if-not-state_valid-2.true))

pub returns : goal.returns
unfolding carry_states other_multiplier
returns c = rw (passed _ _ c.state_valid.ensures (ap not c.if-not-state_valid.false), passed _ _ c.state_valid-2.ensures (ap not c.if-not-state_valid-2.false))
