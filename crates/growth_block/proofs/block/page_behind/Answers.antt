use borrow.Author.Tests.{lt-ltb, le-ltb}
use Rattle.growth_block.proofs.block.page_behind.Goals as goal

pub returns-then-next-pages : goal.returns-then-next-pages
returns-then-next-pages c = rw (lt-ltb _ _ c.if-next-pages.true)

pub returns : goal.returns
returns c = rw (le-ltb _ _ c.if-next-pages.false)
