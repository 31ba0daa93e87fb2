-- `starfile::reading::look_up` meets its contract.
use Rattle.hashing.proofs.Bounds.{passed, failed}
use Rattle.calls.specs.Answers.{sought, refused_by}
use Rattle.calls.specs.Records.{look_up_under}
use mathlib.Core.Path.{ap}
use mathlib.Core.Bool.{not}
use Rattle.starfile.proofs.reading.look_up.Goals as goal

pub returns-then-not-steps_valid : goal.returns-then-not-steps_valid
unfolding sought refused_by look_up_under
returns-then-not-steps_valid c = record { answer = rw (failed _ _ c.steps_valid.ensures (ap not c.if-not-steps_valid.true)) }

pub returns : goal.returns
unfolding look_up_under
returns c = record { answer = rw (passed _ _ c.steps_valid.ensures (ap not c.if-not-steps_valid.false)) c.look_up.ensures }
