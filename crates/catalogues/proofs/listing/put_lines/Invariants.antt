-- `catalogues::listing::put_lines` meets its contract.
use Rattle.std.proofs.Common.{◌+◌, ◌*◌, ◌-◌, ◌≤◌}
use Rattle.lines.specs.Replies.{TextAt}
use Rattle.fits_table.specs.Rows.{rows_read}
use Rattle.catalogues.specs.Listing.{row_lines}
use Rattle.catalogues.proofs.listing.put_lines.Given as goal

abbrev pub invariant-loop-row : goal.invariant-loop-row
invariant-loop-row l =
    (l.at ≤ 36 * (l.row - l.first)) × TextAt 0 (row_lines (rows_read l.given (5760 + 12 * l.first) (l.row - l.first))) l.initial.out l.out l.at
