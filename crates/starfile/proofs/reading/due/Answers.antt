-- `starfile::reading::due` meets its contract.
use Rattle.hashing.proofs.Bounds.{passed, failed}
use Rattle.calls.specs.Answers.{due_said, refused_by}
use Rattle.calls.specs.Records.{due_under}
use mathlib.Core.Path.{ap}
use mathlib.Core.Bool.{not}
use Rattle.starfile.proofs.reading.due.Goals as goal

pub returns-then-not-steps_valid : goal.returns-then-not-steps_valid
unfolding due_said refused_by due_under
returns-then-not-steps_valid c = record { answer = rw (failed _ _ c.steps_valid.ensures (ap not c.if-not-steps_valid.true)) }

pub returns : goal.returns
unfolding due_under
returns c = record { answer = rw (passed _ _ c.steps_valid.ensures (ap not c.if-not-steps_valid.false)) c.due.ensures }
