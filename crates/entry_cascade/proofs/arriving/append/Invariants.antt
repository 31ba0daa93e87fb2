-- The words appended and those of the items from i on are all.
use Rattle.entry_cascade.proofs.Appending.{Appended}
use Rattle.entry_cascade.proofs.arriving.append.Given as goal

abbrev pub invariant-loop-i : goal.invariant-loop-i
invariant-loop-i l = Appended l.places l.at l.numbers l.homes l.initial.waiting l.end l.waiting l.reach l.i
