use Rattle.std.proofs.Common.{◌+◌, drop, sym, ◌∙◌, arith}
use Rattle.std.proofs.Math.ListN.{length-drop}
use Rattle.buffers.proofs.Copies.{none, done}
use Rattle.fits_pages.specs.Columns.{numbers_read}
use Rattle.fits_pages.proofs.ReadColumns.{numbers_long, number-of_row, block-next, block-end}
use Rattle.fits_pages.proofs.columns.numbers_at.Goals as goal

pub loop-i-init : goal.loop-i-init
loop-i-init c = none _ _ _

pub loop-i-preserved : goal.loop-i-preserved
loop-i-preserved c =
    let a = c.args in
    let i = c.loop-i.i in
    block-next (numbers_read a.given.now a.rows) _ _ a.first i _ (omega arith) (omega (arith, numbers_long a.given.now a.rows))
    (c.get_32.ensures ∙ sym (number-of_row a.given.now 5760 a.rows (a.first + i) (omega arith))) c.loop-i.invariant

pub returns : goal.returns
returns c =
    let a = c.args in
    let ns = numbers_read a.given.now a.rows in (
      c.loop-i.invariant.kept,
      block-end (drop a.first ns) _ _ a.count (omega (arith, length-drop a.first ns, numbers_long a.given.now a.rows))
          (done a.count (omega arith) (omega arith) c.loop-i.invariant),
    )
