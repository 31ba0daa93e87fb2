-- `tray_filter::marking::bit_at` meets its contract.
use Rattle.reports.specs.Bits.{bit_at}
use Rattle.tray_filter.proofs.marking.bit_at.Goals as goal

-- src/marking.rt:42:1
pub returns : goal.returns
unfolding bit_at
returns c = c.is_set.ensures
