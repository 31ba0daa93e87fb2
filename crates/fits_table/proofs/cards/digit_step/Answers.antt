use Rattle.fits_table.specs.Header.{digit_step_lem}
use borrow.Author.Tests.{lt-ltb, le-ltb}
use Rattle.fits_table.proofs.cards.digit_step.Goals as goal

pub returns-then-value-gt32768 : goal.returns-then-value-gt32768
unfolding digit_step_lem
returns-then-value-gt32768 c = rw (lt-ltb _ _ c.if-value-gt32768.true)

pub returns-then-byte-lt48 : goal.returns-then-byte-lt48
unfolding digit_step_lem
returns-then-byte-lt48 c = rw (le-ltb _ _ c.if-value-gt32768.false, lt-ltb _ _ c.if-byte-lt48.true)

pub returns-then-byte-gt57 : goal.returns-then-byte-gt57
unfolding digit_step_lem
returns-then-byte-gt57 c = rw (le-ltb _ _ c.if-value-gt32768.false, le-ltb _ _ c.if-byte-lt48.false, lt-ltb _ _ c.if-byte-gt57.true)

pub returns : goal.returns
unfolding digit_step_lem
returns c = rw (le-ltb _ _ c.if-value-gt32768.false, le-ltb _ _ c.if-byte-lt48.false, le-ltb _ _ c.if-byte-gt57.false)
