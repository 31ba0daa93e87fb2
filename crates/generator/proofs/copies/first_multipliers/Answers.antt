-- `generator::first_multipliers` meets its contract, by the same test.
use Rattle.generator.specs.Shape.{first_multipliers_lem}
use Rattle.generator.proofs.Powers.{is-chain, the_other}
use Rattle.generator.proofs.copies.first_multipliers.Goals as goal

pub returns-then-multiplier-eq48271 : goal.returns-then-multiplier-eq48271
unfolding first_multipliers_lem
returns-then-multiplier-eq48271 c = is-chain 48271 90 _ tt _ c.if-multiplier-eq48271.true

pub returns : goal.returns
unfolding first_multipliers_lem
returns c = is-chain 16807 90 _ tt _ (the_other _ c.requires c.if-multiplier-eq48271.false)
