-- `catalogues::listing::put_row` meets its contract.
use native.Mathlib.Omega.{arith}
use mathlib.Core.Path.{sym, ◌∙◌}
use Rattle.fits_table.proofs.GoodRows.{star-valid}
use Rattle.catalogues.proofs.Listed.{row_put, row_there}
use borrow.Author.Rules.{rules}
use Rattle.catalogues.proofs.listing.put_row.Goals as goal

pub put_line-requires : goal.put_line-requires
put_line-requires c =
    record {
      at_in_bounds = omega (arith, c.requires.i_lt_rows.1);
      word_value = star-valid 0 c.args.given.now _ _ _ (sym c.row_at.ensures ∙ c.in-Star.is);
    }

pub returns-in-Star : goal.returns-in-Star
returns-in-Star c = (
  row_put c.args.given.now c.args.rows c.args.i c.requires.rows_value c.requires.i_lt_rows.0 c.row_at.ensures _ _ c.in-Star.is _ _ _ _ c.put_line.ensures.0,
  c.put_line.ensures.1,
)

pub returns-in-Wrong : goal.returns-in-Wrong
returns-in-Wrong c =
    absurd (row_there c.args.given.now c.args.rows c.args.i c.requires.rows_value c.requires.i_lt_rows.0 c.row_at.ensures c.in-Wrong.is)
