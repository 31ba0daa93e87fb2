-- `hashing::within` meets its contract.
use borrow.Author.Tests.{le-leb, lt-leb}
use Rattle.hashing.specs.Limits.{within}
use Rattle.hashing.proofs.limits.within.Goals as goal

pub returns-then-low-value : goal.returns-then-low-value
unfolding within
returns-then-low-value c = rw (le-leb _ _ c.if-low-value.true)

pub returns-else-low-value : goal.returns-else-low-value
unfolding within
returns-else-low-value c = rw (lt-leb _ _ c.if-low-value.false)
