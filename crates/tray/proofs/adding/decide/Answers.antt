-- `tray::adding::decide` meets its contract.
use mathlib.Core.Path.{◌≡◌, sym, ap, ◌∙◌}
use mathlib.Core.Bool.{Bool, true}
use Prim.Native.Nat.{ℕ, ◌<◌}
use native.Mathlib.Omega.{arith}
use lib.ListN.{length}
use Rattle.generator.specs.Generator.{valid_multiplier}
use Rattle.hashing.specs.declared.Parameters.{Parameters}
use Rattle.calls.specs.declared.records.GrowthRecord.{GrowthRecord}
use Rattle.std.specs.Prelude.{Result, Ok, Err}
use Rattle.calls.specs.declared.answers.Refusal.{Refusal}
use Rattle.calls.specs.Shape.{admission_number}
use Rattle.reports.specs.declared.Report.{Report}
use Rattle.tray.specs.Refusals.{tray_lengths, report_refusal}
use Rattle.tray.proofs.Refused.{refused-adds, accepted-adds, report-admitted}
use Rattle.tray.proofs.adding.decide.Goals as goal

told : (p : Parameters) (r : GrowthRecord) (count places n : ℕ) (x : Report) (fits : Bool) (a : Result (Unit {0}) Refusal) → admission_number a ≡ report_refusal p r fits count x → fits ≡ tray_lengths places count n
    → admission_number a ≡ report_refusal p r (tray_lengths places count n) count x
told p r count places n x fits a e is = e ∙ ap (λ (b : Bool). report_refusal p r b count x) is

-- past the refusals
none : (p : Parameters) (r : GrowthRecord) (count places n : ℕ) (x : Report) (fits : Bool) (a : Result (Unit {0}) Refusal) → admission_number a ≡ report_refusal p r fits count x → fits ≡ tray_lengths places count n → a ≡ Ok tt
    → report_refusal p r (tray_lengths places count n) count x ≡ 0
none p r count places n x fits a e is passed = sym (told p r count places n x fits a e is) ∙ ap admission_number passed

well : (p : Parameters) (r : GrowthRecord) (count places n : ℕ) (x : Report) (fits : Bool) (a : Result (Unit {0}) Refusal) → admission_number a ≡ report_refusal p r fits count x → fits ≡ tray_lengths places count n → a ≡ Ok tt
    → (valid_multiplier p.multiplier ≡ true) × ((n ≡ 32) × (count < 256))
well p r count places n x fits a e is passed = report-admitted p r places count n x (none p r count places n x fits a e is passed)

pub returns-in-Err : goal.returns-in-Err
returns-in-Err c =
    λ reports size.
    rw c.turn_away.ensures
    (refused-adds c.args.parameters c.args.growth reports c.args.count c.args.places c.args.filter.now c.args.report _ size
    (sym (ap admission_number c.in-Err.is) ∙ told _ _ _ _ _ _ _ _ c.admit.ensures c.tray_fits-fits.ensures))

pub mark-requires : goal.mark-requires
mark-requires c =
    let w = well c.args.parameters c.args.growth c.args.count c.args.places (length c.args.filter.now) c.args.report _ _ c.admit.ensures c.tray_fits-fits.ensures c.in_default.is in
    (w.0, w.1.0)

pub overflow_add-added : goal.overflow_add-added
overflow_add-added c =
    let w = well c.args.parameters c.args.growth c.args.count c.args.places (length c.args.filter.now) c.args.report _ _ c.admit.ensures c.tray_fits-fits.ensures c.in_default.is in
    record { fits = omega (arith, w.1.1) }

pub returns : goal.returns
returns c =
    λ reports size.
    rw c.stored-kept.ensures
    (accepted-adds c.args.parameters c.args.growth reports c.args.count c.args.places c.args.filter.now _ c.args.report size
    (none _ _ _ _ _ _ _ _ c.admit.ensures c.tray_fits-fits.ensures c.in_default.is) c.mark.ensures)
