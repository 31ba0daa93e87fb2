-- `generator::multiplier_valid` meets its contract.
use borrow.Author.Tests.{eq-eqb, ne_eqb}
use Rattle.generator.specs.Generator.{valid_multiplier}
use Rattle.generator.proofs.copies.multiplier_valid.Goals as goal

pub returns-then-multiplier-eq16807 : goal.returns-then-multiplier-eq16807
unfolding valid_multiplier
returns-then-multiplier-eq16807 c = rw (eq-eqb _ _ c.if-multiplier-eq16807.true)

pub returns-else-multiplier-eq16807 : goal.returns-else-multiplier-eq16807
unfolding valid_multiplier
returns-else-multiplier-eq16807 c = rw (ne_eqb _ _ c.if-multiplier-eq16807.false)
