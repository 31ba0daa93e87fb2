-- `call_guard::turning::out_of_turn` meets its contract.
use mathlib.Core.Path.{refl}
use Rattle.calls.specs.Answers.{cleared, zeros}
use Rattle.call_guard.proofs.Turned.{turned, held_up}
use Rattle.call_guard.proofs.turning.out_of_turn.Goals as goal

pub returns-in-Ok : goal.returns-in-Ok
unfolding cleared zeros
returns-in-Ok c = λ f after. held_up _ _ _ f _ after _ c.requires c.admit.ensures refl c.in-Ok.is refl

pub returns-in-Err : goal.returns-in-Err
returns-in-Err c = λ f after. turned _ _ _ f _ after c.requires c.admit.ensures refl c.in-Err.is
