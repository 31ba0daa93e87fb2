-- `call_guard::lending::guard` meets its contract.
use mathlib.Core.Path.{sym, ap}
use Rattle.hashing.proofs.Bounds.{passed, failed}
use Rattle.calls.proofs.Refusals.{bad_state, bad_lengths, well-lent}
use mathlib.Core.Bool.{not}
use Rattle.call_guard.proofs.lending.guard.Goals as goal

pub returns-then-not-state_valid : goal.returns-then-not-state_valid
returns-then-not-state_valid c = sym (bad_state _ _ _ (failed _ _ c.state_valid.ensures (ap not c.if-not-state_valid.true)))

pub returns-then-not-fits : goal.returns-then-not-fits
returns-then-not-fits c = sym (bad_lengths _ _ _ (passed _ _ c.state_valid.ensures (ap not c.if-not-state_valid.false)) c.if-not-fits.true)

pub returns : goal.returns
returns c = sym (well-lent _ _ _ (passed _ _ c.state_valid.ensures (ap not c.if-not-state_valid.false)) c.if-not-fits.false)
