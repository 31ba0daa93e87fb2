-- `call_whole_file::check` meets its contract.
use mathlib.Core.Path.{◌≡◌, refl, ap, ◌∙◌}
use mathlib.Core.Bool.{Bool, ◌&&◌}
use Rattle.placement.specs.File.{File}
use Rattle.placement.specs.Hash.{lent}
use Rattle.calls.specs.Answers.{Pool, checked, pooled}
use Rattle.calls.specs.Shape.{admission_number}
use Rattle.calls.specs.Calls.{unlent, check_of, file_fits_lem, pool_fits_lem, file_lengths, pool_lengths}
use Rattle.call_whole_file.specs.Outcomes.{verdict_checked_lem}
use Rattle.call_whole_file.proofs.Outcomes.{verdict_is, verdict_small}
use Rattle.calls.proofs.Refusals.{turned-away, refusal_is, none_is, admitted-pool, leaves}
use Rattle.call_guard.proofs.Admitting.{prepared, tabled}
use Rattle.outcome_answer.proofs.Pools.{cleared-is}
use borrow.Author.Rules.{rules}
use lib.ListN.{length}
use Rattle.std.specs.Prelude.{Result, Ok, Err}
use Rattle.calls.specs.declared.answers.Refusal.{Refusal}
use Rattle.hashing.specs.declared.Parameters.{Parameters}
use Rattle.hashing.specs.declared.Growth.{Growth}
use Rattle.call_whole_file.proofs.verdicts.check.Goals as goal

-- what is known past the guard
none : (p : Parameters) (g : Growth) (f : File) (pool : Pool) {fits : Bool} {a : Result (Unit {0}) Refusal} → admission_number a ≡ unlent p g fits
    → fits ≡ (file_lengths p (length f.separators) (length f.numbers) (length f.words) (length f.owners) && pool_lengths p (length pool.numbers) (length pool.words) (length pool.owners))
    → a ≡ Ok tt → unlent p g (file_fits_lem p f && pool_fits_lem p pool) ≡ 0
unfolding file_fits_lem pool_fits_lem
none p g f pool e l t = none_is _ _ e l t

pub returns-in-Err : goal.returns-in-Err
unfolding check_of checked file_fits_lem pool_fits_lem
returns-in-Err c = leaves _ _ _ _ _ (turned-away _ _ _ _ _ _ _ (refusal_is _ _ c.guard.ensures c.all_fit-fits.ensures c.in-Err.is))

pub first_multipliers-table-requires : goal.first_multipliers-table-requires
first_multipliers-table-requires c =
    let f = lent c.args.separators.now c.args.numbers.now c.args.words.now c.args.owners.now in
    let pool = pooled c.args.poolnumbers.now c.args.poolwords.now c.args.poolowners.now in
    let passed-guard = none c.args.parameters c.args.growth f pool c.guard.ensures c.all_fit-fits.ensures c.in_default.is in
    tabled (admitted-pool _ _ _ pool passed-guard).0

pub check_file-verdict-requires : goal.check_file-verdict-requires
check_file-verdict-requires c =
    let f = lent c.args.separators.now c.args.numbers.now c.args.words.now c.args.owners.now in
    let pool = pooled c.args.poolnumbers.now c.args.poolwords.now c.args.poolowners.now in
    let passed-guard = none c.args.parameters c.args.growth f pool c.guard.ensures c.all_fit-fits.ensures c.in_default.is in
    let well = admitted-pool _ _ _ pool passed-guard in
    record { ready = prepared c.first_multipliers-table.ensures well.0; pooled = well.1 }

pub verdict_checked-requires : goal.verdict_checked-requires
verdict_checked-requires c =
    let f = lent c.args.separators.now c.args.numbers.now c.args.words.now c.args.owners.now in
    let pool = pooled c.args.poolnumbers.now c.args.poolwords.now c.args.poolowners.now in
    let passed-guard = none c.args.parameters c.args.growth f pool c.guard.ensures c.all_fit-fits.ensures c.in_default.is in
    let well = admitted-pool _ _ _ pool passed-guard in
    rw c.check_file-verdict.ensures (verdict_small c.args.parameters well.0.homing.valid _ _)

pub returns : goal.returns
unfolding check_of
returns c =
    let f = lent c.args.separators.now c.args.numbers.now c.args.words.now c.args.owners.now in
    let pool = pooled c.args.poolnumbers.now c.args.poolwords.now c.args.poolowners.now in
    let passed-guard = none c.args.parameters c.args.growth f pool c.guard.ensures c.all_fit-fits.ensures c.in_default.is in
    let well = admitted-pool _ _ _ pool passed-guard in
    let done = c.check_file-verdict in
    rw passed-guard
    (record {
      answers = ap checked (c.verdict_checked.ensures ∙ ap (λ v. verdict_checked_lem v c.args.parameters.places) done.ensures) ∙ verdict_is c.args.parameters well.0.homing.valid _ _;
      files = refl;
      pools = cleared-is _ _ _ _ _ _ _ _ _ c.clear.ensures.pool_after c.clear.ensures.waiting_after c.clear.ensures.poolowners_after
          done.auto.pool done.auto.waiting done.auto.poolowners;
    })
