-- `catalogues::listing::put_lines` meets its contract.
use Rattle.std.proofs.Common.{◌≡◌, ◌+◌, ◌-◌, refl, arith}
use Rattle.fits_table.specs.Rows.{rows_read}
use Rattle.catalogues.specs.Listing.{row_lines}
use Rattle.catalogues.proofs.Listed.{line_more}
use Rattle.catalogues.proofs.listing.put_lines.Goals as goal

pub loop-row-init : goal.loop-row-init
unfolding row_lines rows_read
loop-row-init c =
    let none : c.args.first - c.args.first ≡ 0 = omega arith in
    rw none (omega arith, record { buffer = refl; end = refl })

pub loop-row-preserved : goal.loop-row-preserved
loop-row-preserved c =
    let t = c.loop-row in
    let first = c.args.first in
    let step : t.row + 1 - first ≡ t.row - first + 1 = omega arith in
    let here : first + (t.row - first) ≡ t.row = omega arith in
    rw step (
      omega (arith, c.put_row-at.ensures.1),
      line_more _ first (t.row - first) _ _ _ _ _ t.invariant.1 (rw here c.put_row-at.ensures.0),
    )

pub returns : goal.returns
returns c =
    let all : c.loop-row.row - c.args.first ≡ c.args.count = omega arith in
    (rw all at c.loop-row.invariant.1, omega arith)
