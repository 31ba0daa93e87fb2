-- `tray_list::reading::latest_on` meets its contract.
use Rattle.std.proofs.Common.{arith, ◌∙◌, add-one}
use Rattle.reports.specs.Reports.{no_report}
use Rattle.tray_list.proofs.Answering.{latest-next, latest-none}
use Rattle.tray_list.proofs.reading.latest_on.Goals as goal

pub loop-report-init : goal.loop-report-init
loop-report-init c = c.nothing-found.ensures ∙ latest-none c.args.number c.args.reports.now

pub loop-report-preserved : goal.loop-report-preserved
unfolding no_report
loop-report-preserved c = rw (add-one, c.later-found.ensures, c.loop-report.invariant) (latest-next _ _ _ _ (omega arith))
