use Rattle.hashing.proofs.Bounds.{passed, failed}
use mathlib.Core.Path.{refl, ap}
use Rattle.calls.specs.Mend.{mend_under}
use Rattle.call_guard.proofs.Turned.{in_turn_lem}
use mathlib.Core.Bool.{not}
use Rattle.mending.proofs.call.mend.Goals as goal

pub turn_away-requires : goal.turn_away-requires
turn_away-requires c = failed _ _ c.at_rest.ensures (ap not c.if-not-at_rest.true)

pub shape_of-separators-then-not-at_rest : goal.shape_of-separators-then-not-at_rest
shape_of-separators-then-not-at_rest c = refl

pub shape_of-numbers-then-not-at_rest : goal.shape_of-numbers-then-not-at_rest
shape_of-numbers-then-not-at_rest c = refl

pub shape_of-words-then-not-at_rest : goal.shape_of-words-then-not-at_rest
shape_of-words-then-not-at_rest c = refl

pub shape_of-owners-then-not-at_rest : goal.shape_of-owners-then-not-at_rest
shape_of-owners-then-not-at_rest c = refl

pub returns-then-not-at_rest : goal.returns-then-not-at_rest
unfolding mend_under
returns-then-not-at_rest c = record { leaves = c.turn_away.ensures _ }

pub returns : goal.returns
unfolding mend_under
returns c = record { leaves = rw (in_turn_lem _ _ _ _ _ _ (passed _ _ c.at_rest.ensures (ap not c.if-not-at_rest.false))) c.mend_at.ensures }
