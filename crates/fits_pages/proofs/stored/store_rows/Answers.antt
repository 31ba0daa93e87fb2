use Rattle.std.proofs.Common.{length, arith}
use Rattle.buffers.proofs.Copies.{none}
use Rattle.fits_pages.proofs.ReadColumns.{column-next, column-end}
use Rattle.fits_pages.proofs.stored.store_rows.Goals as goal

pub loop-i-init : goal.loop-i-init
loop-i-init c = (none _ _ _, none _ _ _)

pub loop-i-preserved : goal.loop-i-preserved
loop-i-preserved c =
    let t = c.loop-i in
    let pool = c.args.pool.now in (
      column-next _ pool _ _ t.i _ (omega arith) (omega arith) c.number_at.ensures t.invariant.0,
      column-next _ pool _ _ t.i _ (omega arith) (omega arith) c.word_at.ensures t.invariant.1,
    )

pub returns : goal.returns
returns c =
    let t = c.loop-i in
    let pool = c.args.pool.now in record {
      numbers_after = column-end _ pool _ _ t.i c.requires.numbers_len.0 (omega arith) t.invariant.0;
      words_after = column-end _ pool _ _ t.i c.requires.numbers_len.1.0 (omega arith) t.invariant.1;
      owners_after = c.fill.ensures;
    }
