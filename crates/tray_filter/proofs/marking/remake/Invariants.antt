-- `tray_filter::marking::remake` meets its contract.
use Rattle.std.proofs.Common.{◌≡◌, take}
use Rattle.reports.specs.Reports.{filter_of}
use Rattle.tray_filter.proofs.marking.remake.Given as goal

abbrev pub invariant-loop-report : goal.invariant-loop-report
invariant-loop-report l = l.filter ≡ filter_of l.multiplier (take l.report-index l.report-items)
