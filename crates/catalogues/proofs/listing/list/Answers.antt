-- `catalogues::listing::list` meets its contract.
use native.Mathlib.Omega.{arith}
use Prim.Native.Nat.{◌-◌, ◌*◌}
use mathlib.Core.Bool.{true}
use mathlib.Core.Path.{sym, ◌∙◌}
use Rattle.catalogues.proofs.Listed.{none-listed, inside, row_wrong, pad_wrong, part-listed, least-is}
use Rattle.catalogues.proofs.listing.list.Goals as goal

pub returns-in_default : goal.returns-in_default
returns-in_default c = (
  rw (← none-listed c.args.part c.args.given.now c.table_rows.ensures c.in_default.is) c.refuse.ensures.0,
  omega (arith, c.refuse.ensures.1),
)

pub rows_good-requires : goal.rows_good-requires
rows_good-requires c = record {
  count_bound = (inside c.args.part c.args.given.now c.table_rows.ensures _ c.in-Rows.is).0;
  count_in_bounds = (inside c.args.part c.args.given.now c.table_rows.ensures _ c.in-Rows.is).1;
}

pub returns-then-not-rows_good : goal.returns-then-not-rows_good
returns-then-not-rows_good c = (
  rw (← row_wrong c.args.part c.args.given.now c.table_rows.ensures _ c.in-Rows.is
      (sym c.rows_good.ensures ∙ c.if-not-rows_good.true)) c.refuse-then-not-rows_good.ensures.0,
  omega (arith, c.refuse-then-not-rows_good.ensures.1),
)

pub overflow_mul-rows : goal.overflow_mul-rows
overflow_mul-rows c = omega (arith, inside c.args.part c.args.given.now c.table_rows.ensures _ c.in-Rows.is)

pub overflow_add-rows : goal.overflow_add-rows
overflow_add-rows c = omega (arith, inside c.args.part c.args.given.now c.table_rows.ensures _ c.in-Rows.is)

pub pad_zero-requires : goal.pad_zero-requires
pad_zero-requires c = (inside c.args.part c.args.given.now c.table_rows.ensures _ c.in-Rows.is).1

pub returns-then-not-pad_zero : goal.returns-then-not-pad_zero
returns-then-not-pad_zero c = (
  rw (← pad_wrong c.args.part c.args.given.now c.table_rows.ensures _ c.in-Rows.is (sym c.rows_good.ensures ∙ c.if-not-rows_good.false)
      (sym c.pad_zero.ensures ∙ c.if-not-pad_zero.true)) c.refuse-then-not-pad_zero.ensures.0,
  omega (arith, c.refuse-then-not-pad_zero.ensures.1),
)

-- part and rows are small
pub overflow_mul-part : goal.overflow_mul-part
overflow_mul-part c = omega (arith, c.requires.0)

pub overflow_sub-rows : goal.overflow_sub-rows
overflow_sub-rows c = omega (arith, c.min-first.ensures)

pub put_lines-requires : goal.put_lines-requires
put_lines-requires c =
    record {
      rows_bound = inside c.args.part c.args.given.now c.table_rows.ensures _ c.in-Rows.is;
      rows_value = sym c.rows_good.ensures ∙ c.if-not-rows_good.false;
      count_bound = (omega (arith, c.min-count.ensures, c.min-first.ensures), omega (arith, c.min-count.ensures, c.requires.1));
    }

pub returns : goal.returns
returns c =
    let rows = c.in-Rows.rows in (
      rw (← part-listed c.args.part c.args.given.now c.table_rows.ensures rows c.in-Rows.is (sym c.rows_good.ensures ∙ c.if-not-rows_good.false)
          (sym c.pad_zero.ensures ∙ c.if-not-pad_zero.false) c.min-first.result c.min-count.result
          (least-is c.min-first.result (8192 * c.args.part) rows (λ h. omega arith) (λ h. omega arith))
          (least-is c.min-count.result (rows - c.min-first.result) 8192 (λ h. omega arith) (λ h. omega arith)))
          c.put_lines.ensures.0,
      omega (arith, c.put_lines.ensures.1, c.min-count.ensures),
    )
