-- `calls::answers::refused_answer` meets its contract.
use Rattle.calls.specs.Answers.{refused_by}
use Rattle.calls.proofs.answers.refused_answer.Goals as goal

pub returns : goal.returns
unfolding refused_by
returns c = rw (c.at_spot.ensures, c.number_of-number.ensures.0, c.number_of-number.ensures.1)
