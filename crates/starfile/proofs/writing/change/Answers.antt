-- `starfile::writing::change` meets its contract.
use Rattle.hashing.proofs.Bounds.{passed, failed}
use Rattle.calls.specs.Answers.{placed}
use Rattle.calls.specs.Calls.{file_fits_lem}
use Rattle.calls.specs.Records.{change_under}
use Rattle.call_guard.proofs.Turned.{measured, in_turn_lem}
use mathlib.Core.Path.{ap}
use mathlib.Core.Bool.{not}
use Rattle.starfile.proofs.writing.change.Goals as goal

pub out_of_turn-requires : goal.out_of_turn-requires
out_of_turn-requires c = failed _ _ c.at_rest.ensures (ap not c.if-not-at_rest.true)

pub returns-then-not-at_rest : goal.returns-then-not-at_rest
unfolding placed file_fits_lem change_under
returns-then-not-at_rest c = record { leaves = measured _ _ _ _ _ _ c.file_fits-fits.ensures (c.out_of_turn.ensures _) _ }

pub returns : goal.returns
unfolding change_under
returns c = record { leaves = rw (in_turn_lem _ _ _ _ _ _ (passed _ _ c.at_rest.ensures (ap not c.if-not-at_rest.false))) c.change.ensures }
