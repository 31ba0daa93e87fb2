use borrow.Author.Rules.{rules}
use Rattle.plan_transfer.proofs.Fetched.{named_none, named-item-of, named_new}
use Rattle.plan_transfer.proofs.moving.word_named.Goals as goal

pub returns-then-source-eq0 : goal.returns-then-source-eq0
returns-then-source-eq0 c = named_none _ _ _ c.if-source-eq0.true

pub returns-then-item-words : goal.returns-then-item-words
returns-then-item-words c = named-item-of _ _ _ c.if-source-eq0.false c.if-item-words.true

pub returns : goal.returns
returns c = named_new _ _ _ c.if-source-eq0.false c.if-item-words.false
