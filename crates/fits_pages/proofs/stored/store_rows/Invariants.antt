use Rattle.std.proofs.Common.{map}
use Rattle.buffers.proofs.Copies.{Copied}
use Rattle.plan_transfer.specs.Sources.{named_item}
use Rattle.fits_pages.specs.Columns.{numbers_read, words_read}
use Rattle.fits_pages.proofs.stored.store_rows.Given as goal

abbrev pub invariant-loop-i : goal.invariant-loop-i
invariant-loop-i l =
    Copied l.initial.numbers 0 (map (named_item (numbers_read l.given l.rows) 0) l.pool) l.numbers l.i
    × Copied l.initial.words 0 (map (named_item (words_read l.given l.rows) 0) l.pool) l.words l.i
