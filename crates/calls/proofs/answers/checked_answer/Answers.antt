-- `calls::answers::checked_answer` meets its contract.
use Rattle.calls.specs.Answers.{checked}
use borrow.Author.Rules.{rules}
use Rattle.calls.proofs.answers.checked_answer.Goals as goal

pub returns-in-Clean : goal.returns-in-Clean
unfolding checked
returns-in-Clean c = rw c.in-Clean.is c.at_spot.ensures

pub returns-in-Refused : goal.returns-in-Refused
unfolding checked
returns-in-Refused c = rw c.in-Refused.is c.refused_answer.ensures
