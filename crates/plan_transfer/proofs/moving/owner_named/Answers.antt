use borrow.Author.Rules.{rules}
use Rattle.plan_transfer.proofs.Fetched.{named_none, named-item-of, named_new}
use Rattle.plan_transfer.proofs.moving.owner_named.Goals as goal

pub returns-then-source-eq0 : goal.returns-then-source-eq0
returns-then-source-eq0 c = named_none _ _ _ c.if-source-eq0.true

pub returns-then-item-owners : goal.returns-then-item-owners
returns-then-item-owners c = named-item-of _ _ _ c.if-source-eq0.false c.if-item-owners.true

pub returns : goal.returns
returns c = named_new _ _ _ c.if-source-eq0.false c.if-item-owners.false
