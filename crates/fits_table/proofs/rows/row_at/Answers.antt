use Rattle.fits_table.proofs.Signs.{row_low, row_number, row_ra, row_dec, row_good}
use mathlib.Core.Path.{sym, ◌∙◌}
use native.Mathlib.Omega.{arith}
use Rattle.fits_table.proofs.rows.row_at.Goals as goal

pub returns-then-number-last : goal.returns-then-number-last
returns-then-number-last c = row_low _ _ _ (rw (← c.get_32-number.ensures) c.if-number-last.true)

pub returns-then-not-number_valid : goal.returns-then-not-number_valid
returns-then-not-number_valid c =
    let g = c.get_32-number.ensures in
    row_number _ _ _ (rw (← g) c.if-number-last.false) (rw (← g) (sym c.number_valid.ensures ∙ c.if-not-number_valid.true))

pub returns-then-ra-gt1295999999 : goal.returns-then-ra-gt1295999999
returns-then-ra-gt1295999999 c =
    let g = c.get_32-number.ensures in
    let r = c.get_32-ra.ensures in
    let d = c.get_32-dec.ensures in
    let low = rw g at c.if-number-last.false in
    let valid = rw g at (sym c.number_valid.ensures ∙ c.if-not-number_valid.false) in
    row_ra _ _ _ low valid (rw r at c.if-ra-gt1295999999.true)

pub returns-then-raised-gt648000000 : goal.returns-then-raised-gt648000000
returns-then-raised-gt648000000 c =
    let g = c.get_32-number.ensures in
    let r = c.get_32-ra.ensures in
    let d = c.get_32-dec.ensures in
    let low = rw g at c.if-number-last.false in
    let valid = rw g at (sym c.number_valid.ensures ∙ c.if-not-number_valid.false) in
    row_dec _ _ _ low valid (rw r at c.if-ra-gt1295999999.false) (omega (arith, d, c.get_32-dec.type_inv)) (rw d at c.if-raised-gt648000000.true)

pub returns : goal.returns
returns c =
    let g = c.get_32-number.ensures in
    let r = c.get_32-ra.ensures in
    let d = c.get_32-dec.ensures in
    let low = rw g at c.if-number-last.false in
    let valid = rw g at (sym c.number_valid.ensures ∙ c.if-not-number_valid.false) in
    rw (g, r, d) (row_good _ _ _ low valid (rw r at c.if-ra-gt1295999999.false) (omega (arith, d, c.get_32-dec.type_inv)) (rw d at c.if-raised-gt648000000.false))
