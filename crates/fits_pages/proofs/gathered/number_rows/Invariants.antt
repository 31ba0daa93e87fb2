use Rattle.page_plan.proofs.Numbered.{Numbering}
use Rattle.fits_pages.specs.Columns.{numbers_read}
use Rattle.fits_pages.proofs.gathered.number_rows.Given as goal

abbrev pub invariant-loop-word : goal.invariant-loop-word
invariant-loop-word l = Numbering (numbers_read l.given l.rows) l.initial.word-items l.word-items l.word-index
