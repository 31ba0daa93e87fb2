use Rattle.buffers.proofs.Copies.{Copied}
use Rattle.fits_pages.specs.Columns.{keys_from}
use Rattle.fits_pages.proofs.gathered.put_keys.Given as goal

abbrev pub invariant-loop-i : goal.invariant-loop-i
invariant-loop-i l = Copied l.initial.keys l.first (keys_from l.first l.homes) l.keys l.i
