-- `tray_filter::counting::ones_of` meets its contract.
use Rattle.tray_filter.proofs.Ones.{count_ones}
use Rattle.tray_filter.proofs.counting.ones_of.Goals as goal

-- src/counting.rt:36:1
pub returns : goal.returns
returns c = count_ones 64 c.args.word c.ranges.word.fits
