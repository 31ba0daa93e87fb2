use Rattle.growth_block.proofs.Starting.{Seeking}
use Rattle.growth_block.proofs.block.block_start.Given as goal

abbrev pub invariant-loop-below : goal.invariant-loop-below
invariant-loop-below l = Seeking l.separators l.top l.page l.below
