-- `tray_list::reading::nothing` meets its contract.
use mathlib.Core.Path.{refl}
use Rattle.reports.specs.Reports.{no_report}
use Rattle.tray_list.specs.Latest.{nothing as Latest·nothing}
use Rattle.tray_list.proofs.reading.nothing.Goals as goal

pub returns : goal.returns
unfolding Latest·nothing no_report
returns c = refl
