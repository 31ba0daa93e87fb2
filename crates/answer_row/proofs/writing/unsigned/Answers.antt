-- `answer_row::writing::unsigned` meets its contract. The machine's sum is the number raised by 2^31.
use mir.Facts.{to_z-of_z, sfits_widen}
use Rattle.answer_row.proofs.Signed.{lifts, widened, sum_fits, lifted_back}
use Rattle.answer_row.proofs.writing.unsigned.Goals as goal

pub overflow_cast-result : goal.overflow_cast-result
overflow_cast-result c = rw (to_z-of_z c.ranges.dec) (sfits_widen tt c.ranges.dec)

pub overflow_add-result : goal.overflow_add-result
overflow_add-result c = rw (widened c.args.dec c.ranges.dec) (sum_fits c.args.dec c.ranges.dec)

pub overflow_cast-result-2 : goal.overflow_cast-result-2
overflow_cast-result-2 c = rw (lifted_back c.args.dec c.ranges.dec) (tt, record { fits = (lifts c.args.dec c.ranges.dec).small })

pub returns : goal.returns
returns c = rw (lifted_back c.args.dec c.ranges.dec)
