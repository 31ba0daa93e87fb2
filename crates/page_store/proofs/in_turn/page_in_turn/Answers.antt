use native.Mathlib.Numerals.{add-one}
use Rattle.page_store.specs.Stores.{page_in_turn_lem}
use borrow.Author.Rules.{rules}
use Rattle.page_store.proofs.in_turn.page_in_turn.Goals as goal

pub returns-then-upward : goal.returns-then-upward
unfolding page_in_turn_lem
returns-then-upward c = rw c.if-upward.true

pub returns : goal.returns
unfolding page_in_turn_lem
returns c = rw (c.if-upward.false, add-one)
