-- `calls::answers::due_answer` meets its contract.
use Rattle.calls.specs.Answers.{due_said}
use borrow.Author.Rules.{rules}
use Rattle.calls.proofs.answers.due_answer.Goals as goal

pub returns-in-Yes : goal.returns-in-Yes
unfolding due_said
returns-in-Yes c = rw c.in-Yes.is c.count_answer.ensures

pub returns-in-No : goal.returns-in-No
unfolding due_said
returns-in-No c = rw c.in-No.is c.count_answer-in-No.ensures

pub returns-in-Refused : goal.returns-in-Refused
unfolding due_said
returns-in-Refused c = rw c.in-Refused.is c.refused_answer.ensures
