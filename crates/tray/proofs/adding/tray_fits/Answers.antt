-- `tray::adding::tray_fits` meets its contract.
use borrow.Author.Tests.{eq-eqb, ne_eqb}
use Rattle.tray.specs.Refusals.{tray_lengths}
use Rattle.tray.proofs.adding.tray_fits.Goals as goal

pub returns-then-places-ne256 : goal.returns-then-places-ne256
unfolding tray_lengths
returns-then-places-ne256 c = rw (ne_eqb _ 256 c.if-places-ne256.true)

pub returns-then-filter-ne32 : goal.returns-then-filter-ne32
unfolding tray_lengths
returns-then-filter-ne32 c = rw (eq-eqb _ 256 c.if-places-ne256.false, ne_eqb _ 32 c.if-filter-ne32.true)

pub returns : goal.returns
unfolding tray_lengths
returns c = rw (eq-eqb _ 256 c.if-places-ne256.false, eq-eqb _ 32 c.if-filter-ne32.false)
