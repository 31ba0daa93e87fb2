-- `fits::taking::read_table` meets its contract.
use Rattle.hashing.proofs.Bounds.{passed, failed}
use Rattle.exchange.specs.Tables.{read_under}
use Rattle.call_guard.proofs.Turned.{in_turn_lem}
use borrow.Author.Rules.{rules}
use mathlib.Core.Path.{ap}
use mathlib.Core.Bool.{not}
use Rattle.fits.proofs.taking.read_table.Goals as goal

pub turn_away-requires : goal.turn_away-requires
turn_away-requires c = failed _ _ c.at_rest.ensures (ap not c.if-not-at_rest.true)

pub returns-then-not-at_rest : goal.returns-then-not-at_rest
unfolding read_under
returns-then-not-at_rest c = record { leaves = c.turn_away.ensures _ }

pub returns : goal.returns
unfolding read_under
returns c = record { leaves = rw (in_turn_lem _ _ _ _ _ _ (passed _ _ c.at_rest.ensures (ap not c.if-not-at_rest.false))) c.read_closed.ensures }
