-- `tray::seeking::reported` meets its contract.
use borrow.Author.Tests.{eq-eqb, ne_eqb}
use Rattle.calls.specs.Answers.{sought}
use Rattle.reports.specs.Reports.{reported as Reports·reported}
use Rattle.tray.proofs.seeking.reported.Goals as goal

pub returns-then-report-ne0 : goal.returns-then-report-ne0
unfolding sought Reports·reported
returns-then-report-ne0 c = rw (ne_eqb _ 0 c.if-report-ne0.true)

pub returns : goal.returns
unfolding sought Reports·reported
returns c = rw (eq-eqb _ 0 c.if-report-ne0.false, c.position_of.ensures)
