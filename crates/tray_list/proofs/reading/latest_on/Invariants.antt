-- `tray_list::reading::latest_on` meets its contract.
use Rattle.std.proofs.Common.{◌≡◌, take}
use Rattle.tray_list.specs.Latest.{latest_in, nothing}
use Rattle.tray_list.proofs.reading.latest_on.Given as goal

abbrev pub invariant-loop-report : goal.invariant-loop-report
invariant-loop-report l = l.found ≡ latest_in l.number nothing (take l.report-index l.report-items)
