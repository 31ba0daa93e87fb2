use mathlib.Core.Path.{◌≡◌}
use mathlib.Core.Bool.{◌&&◌}
use Rattle.placement.specs.Hash.{lent}
use Rattle.placement.specs.Ready.{Pooled}
use Rattle.calls.specs.Answers.{placed, pooled, cleared}
use Rattle.calls.specs.Shape.{Admitted}
use Rattle.calls.specs.Calls.{unlent, file_fits_lem, pool_fits_lem}
use Rattle.calls.specs.Mend.{mend_of}
use Rattle.calls.proofs.Refusals.{turned-away, refusal_is, none_is, admitted-pool, leaves}
use Rattle.outcome_answer.proofs.Pools.{cleared-is, leaves-cleared}
use Rattle.mending.proofs.Renewed.{mended_pool}
use Rattle.mending.proofs.call.mend_at.Goals as goal

-- what is known past the guard
pub returns-in-Err : goal.returns-in-Err
unfolding mend_of placed file_fits_lem pool_fits_lem
returns-in-Err c = leaves _ _ _ _ _ (turned-away _ _ _ _ _ _ _ (refusal_is _ _ c.guard.ensures c.all_fit-fits.ensures c.in-Err.is))

pub mend_file-answer-requires : goal.mend_file-answer-requires
unfolding file_fits_lem pool_fits_lem
mend_file-answer-requires c =
    let none : unlent c.args.parameters c.args.growth (file_fits_lem c.args.parameters (lent c.args.separators.now c.args.numbers.now c.args.words.now c.args.owners.now) && pool_fits_lem c.args.parameters (pooled c.args.poolnumbers.now c.args.poolwords.now c.args.poolowners.now)) ≡ 0 = none_is _ _ c.guard.ensures c.all_fit-fits.ensures c.in_default.is in
    let lent-well : Admitted c.args.parameters c.args.growth (lent c.args.separators.now c.args.numbers.now c.args.words.now c.args.owners.now) × Pooled c.args.parameters (pooled c.args.poolnumbers.now c.args.poolwords.now c.args.poolowners.now).numbers (pooled c.args.poolnumbers.now c.args.poolwords.now c.args.poolowners.now).words (pooled c.args.poolnumbers.now c.args.poolwords.now c.args.poolowners.now).owners = admitted-pool _ _ _ (pooled c.args.poolnumbers.now c.args.poolwords.now c.args.poolowners.now) none in
    record {
      admitted = lent-well.0;
      pooled = lent-well.1;
    }

pub returns : goal.returns
unfolding mend_of file_fits_lem pool_fits_lem
returns c =
    let none : unlent c.args.parameters c.args.growth (file_fits_lem c.args.parameters (lent c.args.separators.now c.args.numbers.now c.args.words.now c.args.owners.now) && pool_fits_lem c.args.parameters (pooled c.args.poolnumbers.now c.args.poolwords.now c.args.poolowners.now)) ≡ 0 = none_is _ _ c.guard.ensures c.all_fit-fits.ensures c.in_default.is in
    let done = c.mend_file-answer in
    let zeros = c.clear.ensures in
    rw none
    (leaves-cleared _ _ _ (pooled c.args.poolnumbers.now c.args.poolwords.now c.args.poolowners.now) _ done.ensures
    (mended_pool c.args.parameters c.args.growth (lent c.args.separators.now c.args.numbers.now c.args.words.now c.args.owners.now) (cleared (pooled c.args.poolnumbers.now c.args.poolwords.now c.args.poolowners.now)))
    (cleared-is _ _ _ _ _ _ _ _ _ zeros.pool_after zeros.waiting_after zeros.poolowners_after done.auto.poolnumbers done.auto.poolwords done.auto.poolowners))
