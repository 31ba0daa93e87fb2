-- `call_enter::entry::enter_by` meets its contract.
use mathlib.Core.Path.{◌≡◌, ◌∙◌, ap}
use mathlib.Core.Bool.{Bool, ◌&&◌, not}
use Rattle.hashing.proofs.Bounds.{passed, failed}
use Rattle.placement.specs.File.{File}
use Rattle.placement.specs.Hash.{lent}
use Rattle.calls.specs.Answers.{Pool, placed, refused_by, pooled, cleared}
use Rattle.calls.specs.Shape.{admission_number}
use Rattle.calls.specs.Calls.{unlent, file_fits_lem, pool_fits_lem, file_lengths, pool_lengths}
use Rattle.call_enter.specs.Entries.{entered_by}
use Rattle.calls.proofs.Refusals.{turned-away-first, refusal_is, none_is, admitted-pool, leaves}
use Rattle.outcome_answer.proofs.Pools.{cleared-is, leaves-cleared}
use Rattle.call_enter.proofs.Pools.{entry-pool, entry-way, kept_leaves, stopped-pool}
use borrow.Author.Rules.{rules}
use lib.ListN.{length}
use Rattle.std.specs.Prelude.{Result, Ok, Err}
use Rattle.calls.specs.declared.answers.Refusal.{Refusal}
use Rattle.hashing.specs.declared.Parameters.{Parameters}
use Rattle.hashing.specs.declared.Growth.{Growth}
use Rattle.call_enter.proofs.entry.enter_by.Goals as goal

-- what is known past the guard
none : (p : Parameters) (g : Growth) (f : File) (pool : Pool) {fits : Bool} {a : Result (Unit {0}) Refusal} → admission_number a ≡ unlent p g fits
    → fits ≡ (file_lengths p (length f.separators) (length f.numbers) (length f.words) (length f.owners) && pool_lengths p (length pool.numbers) (length pool.words) (length pool.owners))
    → a ≡ Ok tt → unlent p g (file_fits_lem p f && pool_fits_lem p pool) ≡ 0
unfolding file_fits_lem pool_fits_lem
none p g f pool e l t = none_is _ _ e l t

pub returns-in-Err : goal.returns-in-Err
unfolding placed file_fits_lem pool_fits_lem
returns-in-Err c =
    let f = lent c.args.separators.now c.args.numbers.now c.args.words.now c.args.owners.now in
    let pool = pooled c.args.poolnumbers.now c.args.poolwords.now c.args.poolowners.now in
    let call = entered_by c.args.cascading c.args.parameters c.args.growth f pool c.args.caller c.args.number c.args.position in
    let way = entry-way c.args.parameters c.args.growth f pool c.args.cascading c.args.caller c.args.number c.args.position in
    kept_leaves c.args.cascading c.args.parameters c.args.stores {after = call}
    (rw way (leaves _ _ _ _ _ (turned-away-first _ _ _ _ _ _ _ _ (refusal_is _ _ c.guard.ensures c.all_fit-fits.ensures c.in-Err.is))))

pub returns-then-not-number_valid : goal.returns-then-not-number_valid
unfolding placed refused_by
returns-then-not-number_valid c =
    let f = lent c.args.separators.now c.args.numbers.now c.args.words.now c.args.owners.now in
    let pool = pooled c.args.poolnumbers.now c.args.poolwords.now c.args.poolowners.now in
    let call = entered_by c.args.cascading c.args.parameters c.args.growth f pool c.args.caller c.args.number c.args.position in
    let way = entry-way c.args.parameters c.args.growth f pool c.args.cascading c.args.caller c.args.number c.args.position in
    let passed-guard = none c.args.parameters c.args.growth f pool c.guard.ensures c.all_fit-fits.ensures c.in_default.is in
    kept_leaves c.args.cascading c.args.parameters c.args.stores {after = call}
    (leaves _ _ c.args.growth _ _ (rw (way, passed-guard, failed _ _ c.number_valid.ensures (ap not c.if-not-number_valid.true))))

pub returns-then-not-position_valid : goal.returns-then-not-position_valid
unfolding placed refused_by
returns-then-not-position_valid c =
    let f = lent c.args.separators.now c.args.numbers.now c.args.words.now c.args.owners.now in
    let pool = pooled c.args.poolnumbers.now c.args.poolwords.now c.args.poolowners.now in
    let call = entered_by c.args.cascading c.args.parameters c.args.growth f pool c.args.caller c.args.number c.args.position in
    let way = entry-way c.args.parameters c.args.growth f pool c.args.cascading c.args.caller c.args.number c.args.position in
    let passed-guard = none c.args.parameters c.args.growth f pool c.guard.ensures c.all_fit-fits.ensures c.in_default.is in
    let numbered = passed _ _ c.number_valid.ensures (ap not c.if-not-number_valid.false) in
    kept_leaves c.args.cascading c.args.parameters c.args.stores {after = call}
    (leaves _ _ c.args.growth _ _ (rw (way, passed-guard, numbered, failed _ _ c.position_valid.ensures (ap not c.if-not-position_valid.true))))

pub pack-word-requires : goal.pack-word-requires
pack-word-requires c = passed _ _ c.position_valid.ensures (ap not c.if-not-position_valid.false)

pub enter_star-answer-requires : goal.enter_star-answer-requires
enter_star-answer-requires c =
    let f = lent c.args.separators.now c.args.numbers.now c.args.words.now c.args.owners.now in
    let pool = pooled c.args.poolnumbers.now c.args.poolwords.now c.args.poolowners.now in
    let passed-guard = none c.args.parameters c.args.growth f pool c.guard.ensures c.all_fit-fits.ensures c.in_default.is in
    let numbered = passed _ _ c.number_valid.ensures (ap not c.if-not-number_valid.false) in
    let well = admitted-pool _ _ _ pool passed-guard in
    record { admitted = well.0; pooled = well.1; number_value = numbered }

pub returns : goal.returns
returns c =
    let f = lent c.args.separators.now c.args.numbers.now c.args.words.now c.args.owners.now in
    let pool = pooled c.args.poolnumbers.now c.args.poolwords.now c.args.poolowners.now in
    let way = entry-way c.args.parameters c.args.growth f pool c.args.cascading c.args.caller c.args.number c.args.position in
    let passed-guard = none c.args.parameters c.args.growth f pool c.guard.ensures c.all_fit-fits.ensures c.in_default.is in
    let numbered = passed _ _ c.number_valid.ensures (ap not c.if-not-number_valid.false) in
    let positioned = passed _ _ c.position_valid.ensures (ap not c.if-not-position_valid.false) in
    let done = c.enter_star-answer in
    rw (way, passed-guard, numbered, positioned)
    (leaves-cleared _ _ _ pool _ (rw c.pack-word.ensures at done.ensures)
    (stopped-pool c.args.cascading c.args.parameters f c.args.stores _ ∙ entry-pool c.args.parameters c.args.growth f (cleared pool) c.args.cascading _ _)
    (cleared-is _ _ _ _ _ _ _ _ _ c.clear_used.ensures.pool_after c.clear_used.ensures.waiting_after c.clear_used.ensures.poolowners_after
    done.auto.poolnumbers done.auto.poolwords done.auto.poolowners))
