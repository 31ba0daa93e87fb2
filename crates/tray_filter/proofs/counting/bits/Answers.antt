-- `tray_filter::counting::bits` meets its contract.
use borrow.Author.Tests.{eq-eqb, ne_eqb}
use Rattle.reports.specs.Bits.{bits_of}
use Rattle.tray_filter.specs.Shown.{shown}
use Rattle.tray_filter.proofs.counting.bits.Goals as goal

pub returns-then-filter-ne32 : goal.returns-then-filter-ne32
unfolding shown bits_of
returns-then-filter-ne32 c = record { answer = rw (ne_eqb _ _ c.if-filter-ne32.true) }

pub returns : goal.returns
unfolding shown bits_of
returns c = record { answer = rw (eq-eqb _ _ c.if-filter-ne32.false, c.count_ones.ensures) }
