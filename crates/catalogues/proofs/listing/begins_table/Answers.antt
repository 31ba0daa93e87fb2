-- `catalogues::listing::begins_table` meets its contract.
use Rattle.catalogues.proofs.Listed.{empty-none, first_byte}
use borrow.Author.Rules.{rules}
use Rattle.catalogues.proofs.listing.begins_table.Goals as goal

pub returns-then-block-eq0 : goal.returns-then-block-eq0
returns-then-block-eq0 c = empty-none _ c.if-block-eq0.true

pub returns : goal.returns
returns c = first_byte c.args.block.now c.if-block-eq0.false
