-- `tray_filter::marking::remake` meets its contract.
use Rattle.std.proofs.Common.{◌∙◌, ap}
use Rattle.std.proofs.Math.Seq.{take_all}
use Rattle.reports.specs.Reports.{no_report, filter_of}
use Rattle.tray_filter.proofs.Anew.{none-marked, one-marked, between}
use Rattle.tray_filter.proofs.marking.remake.Goals as goal

pub loop-report-init : goal.loop-report-init
loop-report-init c = none-marked c.args.multiplier c.args.filter.now _ c.requires.multiplier_value.1 c.fill.ensures

pub loop-report-preserved : goal.loop-report-preserved
unfolding no_report
loop-report-preserved c =
    one-marked _ _ _ _ _ c.loop-report-test.true c.loop-report.invariant c.mark.ensures

pub returns : goal.returns
returns c =
    c.loop-report.invariant
    ∙ ap (filter_of c.args.multiplier) (take_all _ _ c.loop-report-test.false ∙ between _ _ c.args.reports c.requires.from_le_count.0)
