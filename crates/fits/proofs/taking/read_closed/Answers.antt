-- `fits::taking::read_closed` meets its contract.
use mathlib.Core.Path.{◌≡◌}
use mathlib.Core.Bool.{◌&&◌}
use Rattle.placement.specs.File.{File}
use Rattle.placement.specs.Hash.{lent}
use Rattle.placement.specs.Ready.{Pooled}
use Rattle.calls.specs.Answers.{Pool, placed, pooled, cleared}
use Rattle.calls.specs.Shape.{Admitted}
use Rattle.calls.specs.Calls.{unlent, file_fits_lem, pool_fits_lem}
use Rattle.calls.proofs.Refusals.{turned-away, refusal_is, none_is, admitted-pool, leaves}
use Rattle.outcome_answer.proofs.Pools.{cleared-is, leaves-cleared}
use Rattle.exchange.specs.Tables.{read_of}
use Rattle.fits.proofs.Input.{read-pool}
use borrow.Author.Rules.{rules}
use Rattle.fits.proofs.taking.read_closed.Goals as goal

pub returns-in-Err : goal.returns-in-Err
unfolding read_of placed file_fits_lem pool_fits_lem
returns-in-Err c = leaves _ _ _ _ _ (turned-away _ _ _ _ _ _ _ (refusal_is _ _ c.guard.ensures c.all_fit-fits.ensures c.in-Err.is))

pub read_lent-answer-requires : goal.read_lent-answer-requires
unfolding file_fits_lem pool_fits_lem
read_lent-answer-requires c =
    let f : File = lent c.args.separators.now c.args.numbers.now c.args.words.now c.args.owners.now in
    let pool : Pool = pooled c.args.poolnumbers.now c.args.poolwords.now c.args.poolowners.now in
    let none : unlent c.args.parameters c.args.growth (file_fits_lem c.args.parameters f && pool_fits_lem c.args.parameters pool) ≡ 0 = none_is _ _ c.guard.ensures c.all_fit-fits.ensures c.in_default.is in
    let well : Admitted c.args.parameters c.args.growth f × Pooled c.args.parameters pool.numbers pool.words pool.owners = admitted-pool _ _ _ pool none in record {
      admitted = well.0;
      pooled = well.1;
    }

pub returns : goal.returns
unfolding read_of file_fits_lem pool_fits_lem
returns c =
    let f : File = lent c.args.separators.now c.args.numbers.now c.args.words.now c.args.owners.now in
    let pool : Pool = pooled c.args.poolnumbers.now c.args.poolwords.now c.args.poolowners.now in
    let none : unlent c.args.parameters c.args.growth (file_fits_lem c.args.parameters f && pool_fits_lem c.args.parameters pool) ≡ 0 = none_is _ _ c.guard.ensures c.all_fit-fits.ensures c.in_default.is in
    let e = c.clear.ensures in
    rw none
    (leaves-cleared _ _ _ pool _ c.read_lent-answer.ensures
    (read-pool c.args.parameters c.args.growth f (cleared pool) c.args.given.now _)
    (cleared-is _ _ _ _ _ _ _ _ _ e.pool_after e.waiting_after e.poolowners_after
    c.read_lent-answer.auto.poolnumbers c.read_lent-answer.auto.poolwords c.read_lent-answer.auto.poolowners))
