-- `tray_list::loading::blanks` meets its contract.
use mathlib.Core.Path.{refl}
use Rattle.reports.specs.Reports.{no_report}
use Rattle.tray_list.specs.Loading.{loaded}
use Rattle.tray_list.proofs.loading.blanks.Goals as goal

pub returns : goal.returns
unfolding loaded no_report
returns c = refl
