-- Parameters, growth state, record.
use Rattle.hashing.proofs.Bounds.{passed, failed}
use Rattle.calls.specs.Carry.{valid_state}
use mathlib.Core.Path.{ap}
use mathlib.Core.Bool.{not}
use Rattle.carrying.proofs.calling.state_valid.Goals as goal

pub returns-then-not-parameters_valid : goal.returns-then-not-parameters_valid
unfolding valid_state
returns-then-not-parameters_valid c = rw (failed _ _ c.parameters_valid.ensures (ap not c.if-not-parameters_valid.true))

pub growth_valid-requires : goal.growth_valid-requires
growth_valid-requires c = passed _ _ c.parameters_valid.ensures (ap not c.if-not-parameters_valid.false)

pub returns-then-not-growth_valid : goal.returns-then-not-growth_valid
unfolding valid_state
returns-then-not-growth_valid c = rw (passed _ _ c.parameters_valid.ensures (ap not c.if-not-parameters_valid.false), failed _ _ c.growth_valid.ensures (ap not c.if-not-growth_valid.true))

pub returns : goal.returns
unfolding valid_state
returns c = rw (passed _ _ c.parameters_valid.ensures (ap not c.if-not-parameters_valid.false), passed _ _ c.growth_valid.ensures (ap not c.if-not-growth_valid.false), c.steps_valid.ensures)
