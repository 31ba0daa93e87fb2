-- `calls::answers::placed_answer` meets its contract.
use Rattle.calls.specs.Answers.{placed}
use borrow.Author.Rules.{rules}
use Rattle.calls.proofs.answers.placed_answer.Goals as goal

pub returns-in-On : goal.returns-in-On
unfolding placed
returns-in-On c = rw c.in-On.is c.at_spot.ensures

pub returns-in-Refused : goal.returns-in-Refused
unfolding placed
returns-in-Refused c = rw c.in-Refused.is c.refused_answer.ensures
