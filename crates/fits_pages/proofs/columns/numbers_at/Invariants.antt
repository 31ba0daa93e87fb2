use Rattle.std.proofs.Common.{drop}
use Rattle.buffers.proofs.Copies.{Copied}
use Rattle.fits_pages.specs.Columns.{numbers_read}
use Rattle.fits_pages.proofs.columns.numbers_at.Given as goal

abbrev pub invariant-loop-i : goal.invariant-loop-i
invariant-loop-i l = Copied l.initial.block 0 (drop l.first (numbers_read l.given l.rows)) l.block l.i
