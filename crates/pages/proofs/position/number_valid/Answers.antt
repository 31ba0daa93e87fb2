-- `pages::position::number_valid` meets its contract: one line for each way the first test goes.
-- Assumes nothing.
use borrow.Author.Tests.{le-leb, lt-leb}
use Rattle.pages.specs.Position.{valid_number}
use Rattle.pages.proofs.position.number_valid.Goals as goal

pub returns-then-number-ge1 : goal.returns-then-number-ge1
unfolding valid_number
returns-then-number-ge1 c = rw (le-leb _ _ c.if-number-ge1.true)

pub returns-else-number-ge1 : goal.returns-else-number-ge1
unfolding valid_number
returns-else-number-ge1 c = rw (lt-leb _ _ c.if-number-ge1.false)
