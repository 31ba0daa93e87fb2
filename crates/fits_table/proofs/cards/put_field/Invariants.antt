use Rattle.fits_table.proofs.Fields.{Filled}
use Rattle.fits_table.proofs.cards.put_field.Given as goal

abbrev pub invariant-loop-i : goal.invariant-loop-i
invariant-loop-i l = Filled l.initial.out l.out l.at l.initial.rest l.rest l.i
