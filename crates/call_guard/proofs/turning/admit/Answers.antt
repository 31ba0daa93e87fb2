-- `call_guard::turning::admit` meets its contract.
use mathlib.Core.Path.{sym, ◌∙◌, ap}
use Rattle.hashing.proofs.Bounds.{passed, failed}
use Rattle.call_guard.proofs.Turned.{bad_steps, good-steps}
use mathlib.Core.Bool.{not}
use Rattle.call_guard.proofs.turning.admit.Goals as goal

pub returns-then-not-steps_valid : goal.returns-then-not-steps_valid
returns-then-not-steps_valid c = sym (bad_steps _ _ _ (failed _ _ c.steps_valid.ensures (ap not c.if-not-steps_valid.true)))

pub returns : goal.returns
returns c = c.guard.ensures ∙ sym (good-steps _ _ _ (passed _ _ c.steps_valid.ensures (ap not c.if-not-steps_valid.false)))
