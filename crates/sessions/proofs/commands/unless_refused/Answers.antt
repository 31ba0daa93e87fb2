use borrow.Author.Tests.{eq-eqb, ne_eqb}
use Rattle.sessions.specs.Commands.{unless_refused_lem}
use Rattle.sessions.proofs.commands.unless_refused.Goals as goal

pub returns-then-answer-eq0 : goal.returns-then-answer-eq0
unfolding unless_refused_lem
returns-then-answer-eq0 c = rw (eq-eqb _ _ c.if-answer-eq0.true)

pub returns : goal.returns
unfolding unless_refused_lem
returns c = rw (ne_eqb _ _ c.if-answer-eq0.false)
