-- `tray_filter::marking::is_set` meets its contract.
use mathlib.Core.Path.{refl}
use Rattle.reports.specs.Bits.{bit_of}
use Rattle.tray_filter.proofs.marking.is_set.Goals as goal

-- src/marking.rt:35:1
pub returns : goal.returns
unfolding bit_of
returns c = refl
