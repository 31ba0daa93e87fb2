use Rattle.std.proofs.Common.{◌≡◌, ◌*◌, take}
use Rattle.buffers.specs.Lists.{written}
use Rattle.fits_table.specs.Shape.{template}
use Rattle.fits_table.proofs.cards.put_template.Given as goal

abbrev pub invariant-loop-slot : goal.invariant-loop-slot
invariant-loop-slot l = l.out ≡ written 0 (take (80 * l.slot) template) l.initial.out
