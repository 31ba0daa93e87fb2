-- `tray::seeking::screen` meets its contract.
use mathlib.Core.Path.{◌≡◌, sym, ap, ◌∙◌}
use mathlib.Core.Bool.{Bool, ◌&&◌, not}
use native.Mathlib.Omega.{arith}
use lib.ListN.{length}
use Rattle.hashing.specs.declared.Parameters.{Parameters}
use Rattle.hashing.proofs.Bounds.{passed, failed}
use Rattle.calls.specs.declared.records.GrowthRecord.{GrowthRecord}
use Rattle.std.specs.Prelude.{Result, Ok, Err}
use Rattle.calls.specs.declared.answers.Refusal.{Refusal}
use Rattle.calls.specs.Shape.{admission_number}
use Rattle.calls.specs.Calls.{file_lengths}
use Rattle.calls.proofs.Numbers.{numbered}
use Rattle.call_guard.specs.Turn.{record_refusal}
use Rattle.reports.specs.TrayCalls.{tray_refusal}
use Rattle.tray.specs.Refusals.{screen_refusal, scanned}
use Rattle.tray.proofs.Refused.{record_is, screen_turned, screen_admitted, none-scanned}
use Rattle.tray.proofs.seeking.screen.Goals as goal

-- what the lengths are tested for
told : (p : Parameters) (r : GrowthRecord) (all file tray f t : Bool) (a : Result (Unit {0}) Refusal) → admission_number a ≡ record_refusal p r all → all ≡ (file && tray) → file ≡ f → tray ≡ t
    → admission_number a ≡ tray_refusal p r (f && t)
told p r all file tray f t a e is is-f is-t = e ∙ record_is p r all ∙ ap (tray_refusal p r) (is ∙ rw (is-f, is-t))

none : (p : Parameters) (r : GrowthRecord) (all file tray f t : Bool) (a : Result (Unit {0}) Refusal) → admission_number a ≡ record_refusal p r all → all ≡ (file && tray) → file ≡ f → tray ≡ t → a ≡ Ok tt
    → tray_refusal p r (f && t) ≡ 0
none p r all file tray f t a e is is-f is-t passed = sym (told p r all file tray f t a e is is-f is-t) ∙ ap admission_number passed

pub returns-in-Err : goal.returns-in-Err
returns-in-Err c =
    let e = c.turn_away.ensures in (
      e.0
          ∙ screen_turned _ _ _ _ c.in-Err.refusal (sym (ap admission_number c.in-Err.is) ∙ told _ _ _ _ _ _ _ _ c.admit.ensures c.all_fit-fits.ensures c.file_fits.ensures c.tray_fits.ensures),
      (e.1 ∙ none-scanned _ _ _ (rw e.0 (numbered c.in-Err.refusal)), rw e.1 (omega arith)),
    )

pub returns-then-not-number_valid : goal.returns-then-not-number_valid
unfolding screen_refusal
returns-then-not-number_valid c =
    let e = c.turn_away-then-not-number_valid.ensures in
    let clear = none _ _ _ _ _ _ _ _ c.admit.ensures c.all_fit-fits.ensures c.file_fits.ensures c.tray_fits.ensures c.in_default.is in
    (e.0 ∙ rw (clear, failed _ _ c.number_valid.ensures (ap not c.if-not-number_valid.true)), (e.1 ∙ none-scanned _ _ _ (rw e.0 (omega arith)), rw e.1 (omega arith)))

pub passes-requires : goal.passes-requires
passes-requires c =
    let clear = none _ _ _ _ _ _ _ _ c.admit.ensures c.all_fit-fits.ensures c.file_fits.ensures c.tray_fits.ensures c.in_default.is in
    let a = c.args in
    let w = screen_admitted a.parameters a.growth (file_lengths a.parameters a.separators a.numbers a.words a.owners) a.places a.count (length a.filter.now) clear in
    (w.0, w.1.0)

pub returns-then-not-passes : goal.returns-then-not-passes
unfolding screen_refusal scanned
returns-then-not-passes c =
    let clear = none _ _ _ _ _ _ _ _ c.admit.ensures c.all_fit-fits.ensures c.file_fits.ensures c.tray_fits.ensures c.in_default.is in
    (sym (rw (clear, passed _ _ c.number_valid.ensures (ap not c.if-not-number_valid.false))), (rw (← c.passes.ensures, c.if-not-passes.true), omega arith))

pub returns : goal.returns
unfolding screen_refusal scanned
returns c =
    let clear = none _ _ _ _ _ _ _ _ c.admit.ensures c.all_fit-fits.ensures c.file_fits.ensures c.tray_fits.ensures c.in_default.is in
    let a = c.args in
    let w = screen_admitted a.parameters a.growth (file_lengths a.parameters a.separators a.numbers a.words a.owners) a.places a.count (length a.filter.now) clear in
    (sym (rw (clear, passed _ _ c.number_valid.ensures (ap not c.if-not-number_valid.false))), (rw (← c.passes.ensures, c.if-not-passes.false), w.1.1))
