-- `starfile::advancing::step_growth` meets its contract.
use mathlib.Core.Path.{◌≡◌, ◌∙◌}
use Rattle.placement.specs.Hash.{lent}
use Rattle.calls.specs.Answers.{pooled, cleared}
use Rattle.calls.specs.Calls.{file_fits_lem, pool_fits_lem}
use Rattle.calls.specs.Records.{step_under}
use Rattle.outcome_answer.proofs.Pools.{cleared-is}
use Rattle.starfile.specs.Steps.{step_admitted}
use Rattle.starfile.proofs.Steps.{step-turned, step-passed, step-lent, step-done, step-pool}
use Rattle.starfile.proofs.advancing.step_growth.Goals as goal

pub returns-in-Err : goal.returns-in-Err
unfolding step_under file_fits_lem pool_fits_lem
returns-in-Err c =
    let f = lent c.args.separators.now c.args.numbers.now c.args.words.now c.args.owners.now in
    let second = lent c.args.secondseparators.now c.args.secondnumbers.now c.args.secondwords.now c.args.secondowners.now in
    let pool = pooled c.args.poolnumbers.now c.args.poolwords.now c.args.poolowners.now in
    record { leaves = step-turned c.args.parameters c.args.growth f second pool (step_admitted c.args.parameters c.args.growth f second (cleared pool)) c.admit.ensures c.both_fit-fits.ensures c.in-Err.is }

-- past refusals 1 and 2

pub step_second-stepped-requires : goal.step_second-stepped-requires
unfolding file_fits_lem pool_fits_lem
step_second-stepped-requires c =
    let f = lent c.args.separators.now c.args.numbers.now c.args.words.now c.args.owners.now in
    let second = lent c.args.secondseparators.now c.args.secondnumbers.now c.args.secondwords.now c.args.secondowners.now in
    let pool = pooled c.args.poolnumbers.now c.args.poolwords.now c.args.poolowners.now in
    let none = step-passed c.args.parameters c.args.growth f second pool c.admit.ensures c.both_fit-fits.ensures c.in_default.is in
    let l = step-lent c.args.parameters c.args.growth f second pool none in
    record { admitted = l.0; sized = l.1.0; pooled = l.1.1.0; growth_value = l.1.1.1 }

pub returns : goal.returns
unfolding step_under file_fits_lem pool_fits_lem
returns c =
    let f = lent c.args.separators.now c.args.numbers.now c.args.words.now c.args.owners.now in
    let second = lent c.args.secondseparators.now c.args.secondnumbers.now c.args.secondwords.now c.args.secondowners.now in
    let pool = pooled c.args.poolnumbers.now c.args.poolwords.now c.args.poolowners.now in
    let none = step-passed c.args.parameters c.args.growth f second pool c.admit.ensures c.both_fit-fits.ensures c.in_default.is in
    let done = c.step_second-stepped in
    let zeroed = c.clear.ensures in
    record {
      leaves = step-done c.args.growth second pool (step_admitted c.args.parameters c.args.growth f second (cleared pool)) none (done.ensures (cleared pool))
          (step-pool c.args.parameters c.args.growth f second (cleared pool))
          (cleared-is _ _ _ _ _ _ _ _ _ zeroed.pool_after zeroed.waiting_after zeroed.poolowners_after done.auto.poolnumbers done.auto.poolwords done.auto.poolowners);
    }
