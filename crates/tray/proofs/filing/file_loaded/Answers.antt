-- `tray::filing::file_loaded` meets its contract.
use mathlib.Core.Path.{◌≡◌, refl, sym, ap, ◌∙◌}
use mathlib.Core.Bool.{Bool, ◌&&◌}
use mathlib.Core.List.{List}
use Prim.Native.Nat.{ℕ}
use native.Mathlib.Omega.{arith}
use lib.ListN.{length}
use Rattle.hashing.specs.declared.Parameters.{Parameters}
use Rattle.placement.specs.File.{File}
use Rattle.placement.specs.Hash.{lent}
use Rattle.calls.specs.declared.records.GrowthRecord.{GrowthRecord}
use Rattle.std.specs.Prelude.{Result, Ok, Err}
use Rattle.calls.specs.declared.answers.Refusal.{Refusal}
use Rattle.calls.specs.Answers.{Pool, pooled}
use Rattle.calls.specs.Shape.{admission_number}
use Rattle.calls.specs.Calls.{file_lengths, pool_lengths, file_fits_lem, pool_fits_lem}
use Rattle.call_guard.specs.Turn.{record_refusal}
use Rattle.reports.specs.TrayCalls.{tray_refusal}
use Rattle.outcome_answer.proofs.Pools.{cleared-is}
use Rattle.tray.specs.Refusals.{tray_lengths}
use Rattle.tray.proofs.Refused.{record_is}
use Rattle.tray.proofs.Filed.{measured, refused-measured, open_measured, filing-admitted, filed-measured}
use Rattle.tray.proofs.filing.file_loaded.Goals as goal

-- what the lengths are tested for
module _ (p : Parameters) (r : GrowthRecord) (f : File) (pool : Pool) (places count : ℕ) (filter : List ℕ) (all file tray : Bool) (a : Result (Unit {0}) Refusal) (admits : admission_number a ≡ record_refusal p r all) (is : all ≡ (file && tray))
    (is-file : file ≡ (file_lengths p (length f.separators) (length f.numbers) (length f.words) (length f.owners) && pool_lengths p (length pool.numbers) (length pool.words) (length pool.owners)))
    (is-tray : tray ≡ tray_lengths places count (length filter)) where
  told : admission_number a ≡ tray_refusal p r (measured p r f pool places count filter)
  unfolding file_fits_lem pool_fits_lem
  told = admits ∙ record_is p r all ∙ ap (tray_refusal p r) (is ∙ rw (is-file, is-tray))

  -- past the refusals
  none : a ≡ Ok tt → tray_refusal p r (measured p r f pool places count filter) ≡ 0
  none passed = sym told ∙ ap admission_number passed

pub returns-in-Err : goal.returns-in-Err
returns-in-Err c =
    let a = c.args in
    let f = lent a.separators.now a.numbers.now a.words.now a.owners.now in
    let pool = pooled a.poolnumbers.now a.poolwords.now a.poolowners.now in
    record {
      stay_bound = rw c.not_filed.ensures (omega arith, omega arith);
      files_tray = rw c.not_filed.ensures (λ reports size copied.
          refused-measured a.parameters a.growth f pool a.places a.count a.filter.now c.in-Err.refusal
          (sym (ap admission_number c.in-Err.is) ∙ told a.parameters a.growth f pool a.places a.count a.filter.now _ _ _ _ c.admit.ensures c.all_fit-fits.ensures c.all_fit-lent.ensures c.tray_fits.ensures) reports size);
    }

pub returns-then-growth : goal.returns-then-growth
returns-then-growth c =
    let a = c.args in
    let f = lent a.separators.now a.numbers.now a.words.now a.owners.now in
    let pool = pooled a.poolnumbers.now a.poolwords.now a.poolowners.now in
    let past = none a.parameters a.growth f pool a.places a.count a.filter.now _ _ _ _ c.admit.ensures c.all_fit-fits.ensures c.all_fit-lent.ensures c.tray_fits.ensures c.in_default.is in
    record {
      stay_bound = rw c.not_filed-then-growth.ensures (omega arith, omega arith);
      files_tray = rw c.not_filed-then-growth.ensures (λ reports size copied.
          open_measured a.parameters a.growth f pool a.places a.count a.filter.now past c.if-growth.true _
          (cleared-is _ _ _ _ _ _ _ _ _ c.clear.ensures.pool_after c.clear.ensures.waiting_after c.clear.ensures.poolowners_after refl refl refl) reports size);
    }

pub file_admitted-filing-requires : goal.file_admitted-filing-requires
file_admitted-filing-requires c =
    let a = c.args in
    let f = lent a.separators.now a.numbers.now a.words.now a.owners.now in
    let pool = pooled a.poolnumbers.now a.poolwords.now a.poolowners.now in
    let past = none a.parameters a.growth f pool a.places a.count a.filter.now _ _ _ _ c.admit.ensures c.all_fit-fits.ensures c.all_fit-lent.ensures c.tray_fits.ensures c.in_default.is in
    let ready = filing-admitted a.parameters a.growth f pool a.places a.count a.filter.now past in
    record { admitted = ready.0; pooled = ready.1.0; multiplier_value = ready.1.1 }

pub returns : goal.returns
returns c =
    let a = c.args in
    let f = lent a.separators.now a.numbers.now a.words.now a.owners.now in
    let pool = pooled a.poolnumbers.now a.poolwords.now a.poolowners.now in
    let past = none a.parameters a.growth f pool a.places a.count a.filter.now _ _ _ _ c.admit.ensures c.all_fit-fits.ensures c.all_fit-lent.ensures c.tray_fits.ensures c.in_default.is in
    let filed = filed-measured a.parameters a.growth f pool a.places a.count a.filter.now past c.if-growth.false a.loaded c.file_admitted-filing.result _ _ _ c.file_admitted-filing.ensures in
    record { stay_bound = filed.0; files_tray = filed.1 }
