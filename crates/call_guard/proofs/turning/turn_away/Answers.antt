-- `call_guard::turning::turn_away` meets its contract.
use mathlib.Core.Path.{refl}
use Rattle.calls.specs.Answers.{placed}
use Rattle.calls.specs.Calls.{file_fits_lem, pool_fits_lem}
use Rattle.outcome_answer.proofs.Pools.{cleared-is}
use Rattle.call_guard.proofs.Turned.{turned, held_up}
use Rattle.call_guard.proofs.turning.turn_away.Goals as goal

pub returns-in-Err : goal.returns-in-Err
unfolding placed file_fits_lem pool_fits_lem
returns-in-Err c = λ after. turned _ _ _ _ _ after c.requires c.admit.ensures c.all_fit-fits.ensures c.in-Err.is

pub returns : goal.returns
unfolding placed file_fits_lem pool_fits_lem
returns c =
    λ after.
    held_up _ _ _ _ _ after _ c.requires c.admit.ensures c.all_fit-fits.ensures c.in_default.is
    (cleared-is _ _ _ _ _ _ _ _ _ c.clear.ensures.pool_after c.clear.ensures.waiting_after c.clear.ensures.poolowners_after refl refl refl)
