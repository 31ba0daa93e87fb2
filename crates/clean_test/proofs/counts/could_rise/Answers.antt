use borrow.Author.Tests.{lt-ltb, le-ltb}
use Rattle.clean_test.proofs.counts.could_rise.Goals as goal

pub returns-then-separator-top : goal.returns-then-separator-top
returns-then-separator-top c = rw (lt-ltb _ _ c.if-separator-top.true)

pub returns-else-separator-top : goal.returns-else-separator-top
returns-else-separator-top c = rw (le-ltb _ _ c.if-separator-top.false)
