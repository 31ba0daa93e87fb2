-- `hashing::ungrown` meets its contract.
use borrow.Author.Tests.{eq-eqb, ne_eqb}
use Rattle.hashing.specs.Geometry.{is_ungrown}
use Rattle.hashing.proofs.undoing.ungrown.Goals as goal

pub returns-then-growth-ne0 : goal.returns-then-growth-ne0
unfolding is_ungrown
returns-then-growth-ne0 c = rw (ne_eqb _ _ c.if-growth-ne0.true)

pub returns : goal.returns
unfolding is_ungrown
returns c = rw (eq-eqb _ _ c.if-growth-ne0.false)
