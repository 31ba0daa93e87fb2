use mathlib.Core.List.{List}
use Rattle.fits_table.proofs.Signs.{good-open, good-end}
use Rattle.fits_table.specs.declared.rows.Row.{Row}
use Rattle.fits_table.specs.Rows.{row_at, good_rows, good_after}
use Prim.Native.Nat.{ℕ, ◌+◌, ◌-◌, ◌*◌, ◌<◌}
use mathlib.Core.Path.{◌≡◌, sym, ap, ◌∙◌}
use Rattle.fits_table.proofs.rows.rows_good.Goals as goal

opened : (last : ℕ) (given : List ℕ) (at i count : ℕ) (r : Row) → i < count → r ≡ row_at last given (at + 12 * i)
    → good_rows last given (at + 12 * i) (count - i) ≡ good_after r (λ (k : ℕ). good_rows k given (at + 12 * (i + 1)) (count - (i + 1)))
opened last given at i count r h e =
    good-open last given at i count h
    ∙ ap (λ (r : Row). good_after r (λ (k : ℕ). good_rows k given (at + 12 * (i + 1)) (count - (i + 1)))) (sym e)

pub returns-in_default : goal.returns-in_default
returns-in_default c =
    let t = c.loop-i in
    sym (t.invariant ∙ opened t.last c.args.given.now c.args.at t.i c.args.count _ c.loop-i-test.true (sym c.in_default.is ∙ c.row_at.ensures))

pub loop-i-preserved : goal.loop-i-preserved
loop-i-preserved c =
    let t = c.loop-i in
    t.invariant ∙ opened t.last c.args.given.now c.args.at t.i c.args.count _ c.loop-i-test.true (sym c.in-Star.is ∙ c.row_at.ensures)

pub returns : goal.returns
returns c =
    let t = c.loop-i in
    sym (t.invariant ∙ good-end t.last c.args.given.now c.args.at t.i c.args.count c.loop-i-test.false)
