use Rattle.mending.proofs.Items.{Valid}
use Rattle.mending.proofs.contents.items_valid.Given as goal

abbrev pub invariant-loop-i : goal.invariant-loop-i
invariant-loop-i l = Valid l.numbers l.words l.owners l.i
