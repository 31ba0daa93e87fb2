-- `tray::adding::admit` meets its contract.
use mathlib.Core.Path.{◌≡◌, sym, ap, ◌∙◌}
use mathlib.Core.Bool.{Bool, not}
use borrow.Author.Tests.{lt-ltb, le-ltb}
use Rattle.hashing.specs.declared.Parameters.{Parameters}
use Rattle.hashing.proofs.Bounds.{passed, failed}
use Rattle.calls.specs.declared.records.GrowthRecord.{GrowthRecord}
use Rattle.std.specs.Prelude.{Result, Ok, Err}
use Rattle.std.specs.Result.{IsErrAnd}
use Rattle.calls.specs.declared.answers.Refusal.{Refusal}
use Rattle.calls.specs.Answers.{refusal_number}
use Rattle.calls.specs.Shape.{admission_number}
use Rattle.call_guard.specs.Turn.{record_refusal}
use Rattle.reports.specs.TrayCalls.{tray_refusal}
use Rattle.tray.specs.Refusals.{report_refusal}
use Rattle.tray.proofs.Refused.{record_is, report-turned}
use Rattle.tray.proofs.adding.admit.Goals as goal

-- past 1 and 2
none : (p : Parameters) (r : GrowthRecord) (fits : Bool) (a : Result (Unit {0}) Refusal) → admission_number a ≡ record_refusal p r fits → a ≡ Ok tt → tray_refusal p r fits ≡ 0
none p r fits a e is = sym (e ∙ record_is p r fits) ∙ ap admission_number is

-- the refusal that ? hands on
handed : (a : Result (Unit {0}) Refusal) (x : Refusal) → IsErrAnd a (λ (y : Refusal). y ≡ x) → admission_number a ≡ refusal_number x
handed (Ok done) x h = absurd h
handed (Err y) x h = ap refusal_number h

pub returns-in_err-admit : goal.returns-in_err-admit
returns-in_err-admit c =
    handed _ _ c.from_residual.ensures.1 ∙ report-turned _ _ _ _ _ _ (sym (ap admission_number c.in_err-admit.was) ∙ (c.admit.ensures ∙ record_is _ _ _))

pub returns-then-not-number_valid : goal.returns-then-not-number_valid
unfolding report_refusal
returns-then-not-number_valid c = rw (none _ _ _ _ c.admit.ensures c.in_ok-admit.was, failed _ _ c.number_valid.ensures (ap not c.if-not-number_valid.true))

pub returns-then-not-placed_well : goal.returns-then-not-placed_well
unfolding report_refusal
returns-then-not-placed_well c =
    rw (
      none _ _ _ _ c.admit.ensures c.in_ok-admit.was,
      passed _ _ c.number_valid.ensures (ap not c.if-not-number_valid.false),
      failed _ _ c.placed_well.ensures (ap not c.if-not-placed_well.true),
    )

pub returns-then-count-ge256 : goal.returns-then-count-ge256
unfolding report_refusal
returns-then-count-ge256 c =
    rw (
      none _ _ _ _ c.admit.ensures c.in_ok-admit.was,
      passed _ _ c.number_valid.ensures (ap not c.if-not-number_valid.false),
      passed _ _ c.placed_well.ensures (ap not c.if-not-placed_well.false),
      le-ltb _ 256 c.if-count-ge256.true,
    )

pub returns : goal.returns
unfolding report_refusal
returns c =
    rw (
      none _ _ _ _ c.admit.ensures c.in_ok-admit.was,
      passed _ _ c.number_valid.ensures (ap not c.if-not-number_valid.false),
      passed _ _ c.placed_well.ensures (ap not c.if-not-placed_well.false),
      lt-ltb _ 256 c.if-count-ge256.false,
    )
