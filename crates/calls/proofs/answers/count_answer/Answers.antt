-- `calls::answers::count_answer` meets its contract.
use Rattle.calls.specs.Answers.{counted, spotted}
use borrow.Author.Rules.{rules}
use Rattle.calls.proofs.answers.count_answer.Goals as goal

pub returns : goal.returns
unfolding counted spotted
returns c = rw c.at_spot.ensures
