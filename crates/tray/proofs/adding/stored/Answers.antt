-- `tray::adding::stored` meets its contract.
use borrow.Author.Tests.{eq-eqb, ne_eqb}
use Rattle.reports.specs.Reports.{stored as Reports·stored}
use Rattle.tray.proofs.adding.stored.Goals as goal

pub returns-then-report-eq0 : goal.returns-then-report-eq0
unfolding Reports·stored
returns-then-report-eq0 c = rw (eq-eqb _ 0 c.if-report-eq0.true)

pub returns : goal.returns
unfolding Reports·stored
returns c = rw (ne_eqb _ 0 c.if-report-eq0.false)
