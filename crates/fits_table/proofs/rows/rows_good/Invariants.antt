use Rattle.fits_table.specs.Rows.{good_rows}
use Prim.Native.Nat.{◌+◌, ◌-◌, ◌*◌}
use mathlib.Core.Path.{◌≡◌}
use Rattle.fits_table.proofs.rows.rows_good.Given as goal

abbrev pub invariant-loop-i : goal.invariant-loop-i
invariant-loop-i l = good_rows 0 l.given l.at l.count ≡ good_rows l.last l.given (l.at + 12 * l.i) (l.count - l.i)
