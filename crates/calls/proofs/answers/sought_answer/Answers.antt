-- `calls::answers::sought_answer` meets its contract.
use Rattle.calls.specs.Answers.{sought, found_at, spotted}
use borrow.Author.Rules.{rules}
use Rattle.calls.proofs.answers.sought_answer.Goals as goal

pub returns-in-At : goal.returns-in-At
unfolding sought found_at spotted
returns-in-At c = rw (c.in-At.is, c.at_spot.ensures)

pub returns-in-Absent : goal.returns-in-Absent
unfolding sought
returns-in-Absent c = rw c.in-Absent.is c.at_spot-in-Absent.ensures

pub returns-in-Refused : goal.returns-in-Refused
unfolding sought
returns-in-Refused c = rw c.in-Refused.is c.refused_answer.ensures
