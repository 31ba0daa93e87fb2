-- `soundness::stretches::all_unused` meets its contract. The invariant: the items before the i-th are unused.
use Rattle.soundness.specs.Stretch.{Unused}
use Rattle.soundness.proofs.stretches.all_unused.Given as goal

abbrev pub invariant-loop-i : goal.invariant-loop-i
invariant-loop-i l = Unused l.numbers l.words l.owners l.first l.i
