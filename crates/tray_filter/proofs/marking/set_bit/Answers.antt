-- `tray_filter::marking::set_bit` meets its contract.
use Rattle.reports.specs.Bits.{bit_set}
use Rattle.tray_filter.proofs.marking.set_bit.Goals as goal

-- src/marking.rt:59:1
pub returns : goal.returns
unfolding bit_set
returns c = rw c.with_bit.ensures
