use borrow.Author.Tests.{eq-eqb, ne_eqb}
use Rattle.hashing.proofs.Bounds.{passed, failed}
use Rattle.calls.specs.Mend.{valid_item}
use mathlib.Core.Path.{ap}
use mathlib.Core.Bool.{not}
use Rattle.mending.proofs.contents.item_valid.Goals as goal

pub returns-then-word-ne0 : goal.returns-then-word-ne0
unfolding valid_item
returns-then-word-ne0 c = rw (eq-eqb _ _ c.if-number-eq0.true, ne_eqb _ _ c.if-word-ne0.true)

pub returns-then-number-eq0 : goal.returns-then-number-eq0
unfolding valid_item
returns-then-number-eq0 c = rw (eq-eqb _ _ c.if-number-eq0.true, eq-eqb _ _ c.if-word-ne0.false)

pub returns-then-not-number_valid : goal.returns-then-not-number_valid
unfolding valid_item
returns-then-not-number_valid c = rw (ne_eqb _ _ c.if-number-eq0.false, failed _ _ c.number_valid.ensures (ap not c.if-not-number_valid.true))

pub returns : goal.returns
unfolding valid_item
returns c = rw (ne_eqb _ _ c.if-number-eq0.false, passed _ _ c.number_valid.ensures (ap not c.if-not-number_valid.false)) c.word_valid.ensures
