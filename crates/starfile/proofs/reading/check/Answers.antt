-- `starfile::reading::check` meets its contract.
use Rattle.hashing.proofs.Bounds.{passed, failed}
use Rattle.calls.specs.Answers.{checked, refused_by}
use Rattle.calls.specs.Records.{check_under}
use Rattle.calls.proofs.Refusals.{leaves}
use Rattle.call_guard.proofs.Turned.{misrecorded}
use mathlib.Core.Path.{ap}
use mathlib.Core.Bool.{not}
use Rattle.starfile.proofs.reading.check.Goals as goal

pub returns-then-not-steps_valid : goal.returns-then-not-steps_valid
unfolding checked refused_by check_under
returns-then-not-steps_valid c = record { leaves = leaves _ _ _ _ _ (misrecorded _ _ _ _ _ (failed _ _ c.steps_valid.ensures (ap not c.if-not-steps_valid.true))) }

pub returns : goal.returns
unfolding check_under
returns c = record { leaves = rw (passed _ _ c.steps_valid.ensures (ap not c.if-not-steps_valid.false)) c.check.ensures }
