-- `call_remove::remove_stopped` meets its contract.
use mathlib.Core.Path.{◌≡◌, ap}
use mathlib.Core.Bool.{Bool, true, ◌&&◌, not}
use Rattle.hashing.proofs.Bounds.{passed, failed}
use Rattle.placement.specs.File.{File}
use Rattle.placement.specs.Hash.{lent}
use Rattle.calls.specs.Stores.{remove_stopped_of}
use Rattle.calls.specs.Answers.{Pool, placed, refused_by, pooled, cleared}
use Rattle.calls.specs.Shape.{admission_number}
use Rattle.calls.specs.Calls.{unlent, remove_of, file_fits_lem, pool_fits_lem, file_lengths, pool_lengths}
use Rattle.calls.proofs.Refusals.{turned-away-first, refusal_is, none_is, admitted-pool, leaves}
use Rattle.outcome_answer.proofs.Pools.{cleared-is, leaves-cleared}
use Rattle.outcome_answer.proofs.Stopped.{unmoved-leaves}
use Rattle.call_remove.proofs.Pools.{remove_pool}
use borrow.Author.Rules.{rules}
use lib.ListN.{length}
use Rattle.std.specs.Prelude.{Result, Ok, Err}
use Rattle.calls.specs.declared.answers.Refusal.{Refusal}
use Rattle.hashing.specs.declared.Parameters.{Parameters}
use Rattle.hashing.specs.declared.Growth.{Growth}
use Rattle.call_remove.proofs.removal.remove_stopped.Goals as goal

-- what is known past the guard
none : (p : Parameters) (g : Growth) (f : File) (pool : Pool) {fits : Bool} {a : Result (Unit {0}) Refusal} → admission_number a ≡ unlent p g fits
    → fits ≡ (file_lengths p (length f.separators) (length f.numbers) (length f.words) (length f.owners) && pool_lengths p (length pool.numbers) (length pool.words) (length pool.owners))
    → a ≡ Ok tt → unlent p g (file_fits_lem p f && pool_fits_lem p pool) ≡ 0
unfolding file_fits_lem pool_fits_lem
none p g f pool e l t = none_is _ _ e l t

pub returns-in-Err : goal.returns-in-Err
unfolding remove_stopped_of remove_of placed file_fits_lem pool_fits_lem
returns-in-Err c =
    let f = lent c.args.separators.now c.args.numbers.now c.args.words.now c.args.owners.now in
    let pool = pooled c.args.poolnumbers.now c.args.poolwords.now c.args.poolowners.now in
    let call = remove_of c.args.parameters c.args.growth f pool c.args.caller c.args.number in
    unmoved-leaves true c.args.parameters c.args.stores {after = call}
    (leaves _ _ _ _ _ (turned-away-first _ _ _ _ _ _ _ _ (refusal_is _ _ c.guard.ensures c.all_fit-fits.ensures c.in-Err.is)))

pub returns-then-not-number_valid : goal.returns-then-not-number_valid
unfolding remove_stopped_of remove_of placed refused_by
returns-then-not-number_valid c =
    let f = lent c.args.separators.now c.args.numbers.now c.args.words.now c.args.owners.now in
    let pool = pooled c.args.poolnumbers.now c.args.poolwords.now c.args.poolowners.now in
    let call = remove_of c.args.parameters c.args.growth f pool c.args.caller c.args.number in
    let passed-guard = none c.args.parameters c.args.growth f pool c.guard.ensures c.all_fit-fits.ensures c.in_default.is in
    unmoved-leaves true c.args.parameters c.args.stores {after = call}
    (leaves _ _ c.args.growth _ _ (rw (passed-guard, failed _ _ c.number_valid.ensures (ap not c.if-not-number_valid.true))))

pub remove_held-answer-requires : goal.remove_held-answer-requires
remove_held-answer-requires c =
    let f = lent c.args.separators.now c.args.numbers.now c.args.words.now c.args.owners.now in
    let pool = pooled c.args.poolnumbers.now c.args.poolwords.now c.args.poolowners.now in
    let passed-guard = none c.args.parameters c.args.growth f pool c.guard.ensures c.all_fit-fits.ensures c.in_default.is in
    let numbered = passed _ _ c.number_valid.ensures (ap not c.if-not-number_valid.false) in
    let well = admitted-pool _ _ _ pool passed-guard in
    record { admitted = well.0; pooled = well.1; number_value = numbered }

pub returns : goal.returns
unfolding remove_stopped_of remove_of
returns c =
    let f = lent c.args.separators.now c.args.numbers.now c.args.words.now c.args.owners.now in
    let pool = pooled c.args.poolnumbers.now c.args.poolwords.now c.args.poolowners.now in
    let passed-guard = none c.args.parameters c.args.growth f pool c.guard.ensures c.all_fit-fits.ensures c.in_default.is in
    let numbered = passed _ _ c.number_valid.ensures (ap not c.if-not-number_valid.false) in
    rw (passed-guard, numbered)
    (leaves-cleared _ _ _ pool _ c.remove_held-answer.ensures
    (remove_pool c.args.parameters c.args.growth f (cleared pool) _ _ _)
    (cleared-is _ _ _ _ _ _ _ _ _ c.clear_used.ensures.pool_after c.clear_used.ensures.waiting_after c.clear_used.ensures.poolowners_after
    c.remove_held-answer.auto.poolnumbers c.remove_held-answer.auto.poolwords c.remove_held-answer.auto.poolowners))
