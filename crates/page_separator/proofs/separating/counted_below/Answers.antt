-- What is left is counted below v.
use Rattle.std.proofs.Common.{arith}
use Rattle.page_separator.proofs.Counting.{sum-last}
use Rattle.page_separator.proofs.separating.counted_below.Goals as goal

pub overflow_sub-below : goal.overflow_sub-below
overflow_sub-below c = omega (arith, sum-last c.loop-v.v c.args.counts.now (omega arith))

pub loop-v-preserved : goal.loop-v-preserved
loop-v-preserved c = omega (arith, sum-last c.loop-v.v c.args.counts.now (omega arith))
