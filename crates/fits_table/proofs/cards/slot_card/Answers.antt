use Rattle.fits_table.specs.Shape.{slot_card_lem}
use borrow.Author.Tests.{lt-ltb, le-ltb}
use Rattle.fits_table.proofs.cards.slot_card.Goals as goal

pub returns-then-slot-lt5 : goal.returns-then-slot-lt5
unfolding slot_card_lem
returns-then-slot-lt5 c = rw (lt-ltb _ _ c.if-slot-lt5.true)

pub returns-then-slot-lt36 : goal.returns-then-slot-lt36
unfolding slot_card_lem
returns-then-slot-lt36 c = rw (le-ltb _ _ c.if-slot-lt5.false, lt-ltb _ _ c.if-slot-lt36.true)

pub returns-then-slot-lt48 : goal.returns-then-slot-lt48
unfolding slot_card_lem
returns-then-slot-lt48 c = rw (le-ltb _ _ c.if-slot-lt5.false, le-ltb _ _ c.if-slot-lt36.false, lt-ltb _ _ c.if-slot-lt48.true)

pub returns : goal.returns
unfolding slot_card_lem
returns c = rw (le-ltb _ _ c.if-slot-lt5.false, le-ltb _ _ c.if-slot-lt36.false, le-ltb _ _ c.if-slot-lt48.false)
