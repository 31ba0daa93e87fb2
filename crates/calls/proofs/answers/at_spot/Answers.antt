-- `calls::answers::at_spot` meets its contract.
use mathlib.Core.Path.{refl}
use Rattle.calls.specs.Answers.{spotted}
use Rattle.calls.proofs.answers.at_spot.Goals as goal

pub returns : goal.returns
unfolding spotted
returns c = refl
