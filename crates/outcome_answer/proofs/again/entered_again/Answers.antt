use borrow.Author.Tests.{eq-eqb, ne_eqb}
use Rattle.outcome_answer.proofs.again.entered_again.Goals as goal

pub returns-then-stored-word : goal.returns-then-stored-word
returns-then-stored-word c = rw (eq-eqb _ _ c.if-stored-word.true)

pub returns : goal.returns
returns c = rw (ne_eqb _ _ c.if-stored-word.false)
