-- `fits::taking::data_good` meets its contract.
use Rattle.exchange.specs.Tables.{good_data}
use Rattle.fits.proofs.taking.data_good.Goals as goal

pub returns-then-rows_good : goal.returns-then-rows_good
unfolding good_data
returns-then-rows_good c = rw (← c.rows_good.ensures, c.if-rows_good.true) c.pad_zero.ensures

pub returns-else-rows_good : goal.returns-else-rows_good
unfolding good_data
returns-else-rows_good c = rw (← c.rows_good.ensures, c.if-rows_good.false)
