-- `call_whole_file::growth::regrow` meets its contract.
use mathlib.Core.Path.{◌≡◌}
use mathlib.Core.Bool.{Bool, ◌&&◌}
use Rattle.placement.specs.File.{File}
use Rattle.placement.specs.Hash.{lent}
use Rattle.calls.specs.Answers.{Pool, placed, pooled, cleared}
use Rattle.calls.specs.Shape.{admission_number}
use Rattle.calls.specs.Calls.{unlent, file_fits_lem, pool_fits_lem, file_lengths, pool_lengths}
use Rattle.calls.proofs.Refusals.{turned-away, refusal_is, none_is, admitted-pool, made_by}
use Rattle.outcome_answer.proofs.Pools.{cleared-is, leaves-cleared}
use Rattle.call_whole_file.proofs.Stepping.{regrow_guarded, regrown-pool}
use borrow.Author.Rules.{rules}
use lib.ListN.{length}
use Rattle.std.specs.Prelude.{Result, Ok, Err}
use Rattle.calls.specs.declared.answers.Refusal.{Refusal}
use Rattle.hashing.specs.declared.Parameters.{Parameters}
use Rattle.hashing.specs.declared.Growth.{Growth}
use Rattle.call_whole_file.proofs.growth.regrow.Goals as goal

-- what is known past the guard
none : (p : Parameters) (g : Growth) (f : File) (pool : Pool) {fits : Bool} {a : Result (Unit {0}) Refusal} → admission_number a ≡ unlent p g fits
    → fits ≡ (file_lengths p (length f.separators) (length f.numbers) (length f.words) (length f.owners) && pool_lengths p (length pool.numbers) (length pool.words) (length pool.owners))
    → a ≡ Ok tt → unlent p g (file_fits_lem p f && pool_fits_lem p pool) ≡ 0
unfolding file_fits_lem pool_fits_lem
none p g f pool e l t = none_is _ _ e l t

pub returns-in-Err : goal.returns-in-Err
unfolding placed file_fits_lem pool_fits_lem
returns-in-Err c =
    let made = made_by _ _ _ _ _ (turned-away _ _ _ _ _ _ _ (refusal_is _ _ c.guard.ensures c.all_fit-fits.ensures c.in-Err.is)) in
    record { leaves = rw (regrow_guarded c.args.back _ _ _ _, c.unmoved.ensures) made.0; growth_value = rw (regrow_guarded c.args.back _ _ _ _, c.unmoved.ensures) made.1 }

pub regrow_file-answer-requires : goal.regrow_file-answer-requires
regrow_file-answer-requires c =
    let f = lent c.args.separators.now c.args.numbers.now c.args.words.now c.args.owners.now in
    let pool = pooled c.args.poolnumbers.now c.args.poolwords.now c.args.poolowners.now in
    let passed-guard = none c.args.parameters c.args.growth f pool c.guard.ensures c.all_fit-fits.ensures c.in_default.is in
    let well = admitted-pool _ _ _ pool passed-guard in
    record { admitted = well.0; pooled = well.1 }

pub returns : goal.returns
returns c =
    let f = lent c.args.separators.now c.args.numbers.now c.args.words.now c.args.owners.now in
    let pool = pooled c.args.poolnumbers.now c.args.poolwords.now c.args.poolowners.now in
    let passed-guard = none c.args.parameters c.args.growth f pool c.guard.ensures c.all_fit-fits.ensures c.in_default.is in
    let done = c.regrow_file-answer in
    let guarded = regrow_guarded c.args.back c.args.parameters c.args.growth f pool in
    record {
      leaves = rw (guarded, passed-guard)
          (leaves-cleared _ _ _ pool _ done.ensures.stores
          (regrown-pool c.args.back c.args.parameters c.args.growth f (cleared pool))
          (cleared-is _ _ _ _ _ _ _ _ _ c.clear.ensures.pool_after c.clear.ensures.waiting_after c.clear.ensures.poolowners_after
          done.auto.poolnumbers done.auto.poolwords done.auto.poolowners));
      growth_value = rw (guarded, passed-guard) done.ensures.growth_value;
    }
