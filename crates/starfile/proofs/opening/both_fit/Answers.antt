-- `starfile::opening::both_fit` meets its contract.
use Rattle.hashing.proofs.Bounds.{passed, failed}
use mathlib.Core.Path.{ap}
use mathlib.Core.Bool.{not}
use Rattle.starfile.proofs.opening.both_fit.Goals as goal

pub returns-then-not-file_fits : goal.returns-then-not-file_fits
returns-then-not-file_fits c = rw (failed _ _ c.file_fits.ensures (ap not c.if-not-file_fits.true))

pub returns : goal.returns
returns c = rw (passed _ _ c.file_fits.ensures (ap not c.if-not-file_fits.false), c.all_fit.ensures)
