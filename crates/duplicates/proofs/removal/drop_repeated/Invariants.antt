use Rattle.duplicates.proofs.Firsts.{Keeping}
use Rattle.duplicates.proofs.removal.drop_repeated.Given as goal

abbrev pub invariant-loop-i : goal.invariant-loop-i
invariant-loop-i l = Keeping l.end l.initial.waiting l.waiting l.last l.kept l.i
