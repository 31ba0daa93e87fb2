-- `tray::adding::placed_well` meets its contract.
use mathlib.Core.Path.{ap, ◌∙◌}
use borrow.Author.Tests.{eq-eqb, ne_eqb}
use Rattle.pages.specs.Position.{valid_position}
use Rattle.tray.proofs.adding.placed_well.Goals as goal

pub returns-then-report-ne0 : goal.returns-then-report-ne0
returns-then-report-ne0 c = rw (ne_eqb _ 0 c.if-report-ne0.true)

pub returns : goal.returns
returns c = rw (eq-eqb _ 0 c.if-report-ne0.false) (c.position_valid.ensures ∙ ap valid_position c.position_of.ensures)
