-- `generator::multipliers` meets its contract: each table passes the test that each entry is the one before times the multiplier.
use Rattle.generator.specs.Generator.{multipliers}
use Rattle.generator.proofs.Powers.{is-chain, the_other}
use Rattle.generator.proofs.copies.multipliers.Goals as goal

pub returns-then-multiplier-eq48271 : goal.returns-then-multiplier-eq48271
unfolding multipliers
returns-then-multiplier-eq48271 c = is-chain 48271 2049 _ tt _ c.if-multiplier-eq48271.true

pub returns : goal.returns
unfolding multipliers
returns c = is-chain 16807 2049 _ tt _ (the_other _ c.requires c.if-multiplier-eq48271.false)
