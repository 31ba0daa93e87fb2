use borrow.Author.Tests.{le-leb, lt-leb}
use Rattle.page_separator.specs.Words.{source_of}
use Rattle.page_plan.specs.Plans.{slot_source}
use Rattle.page_plan.proofs.layout.source_at.Goals as goal

pub returns-then-kept-i : goal.returns-then-kept-i
returns-then-kept-i c = (unfold slot_source in rw (le-leb c.args.kept c.args.i c.if-kept-i.true))

pub returns : goal.returns
returns c = (unfold slot_source source_of in rw (lt-leb c.args.kept c.args.i c.if-kept-i.false))
