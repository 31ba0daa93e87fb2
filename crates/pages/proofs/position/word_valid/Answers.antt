-- `pages::position::word_valid` meets its contract: one line for each way the first test goes.
-- Assumes nothing.
use borrow.Author.Rules.{rules}
use borrow.Author.Tests.{le-leb, lt-leb}
use Rattle.pages.specs.Position.{valid_word}
use Rattle.pages.proofs.position.word_valid.Goals as goal

pub returns-then-word : goal.returns-then-word
unfolding valid_word
returns-then-word c = rw (le-leb _ _ c.if-word.true)

pub returns-else-word : goal.returns-else-word
unfolding valid_word
returns-else-word c = rw (lt-leb _ _ c.if-word.false)
