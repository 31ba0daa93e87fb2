use Prim.Native.Nat.{◌-◌}
use Rattle.duplicates.proofs.Firsts.{Agreeing}
use Rattle.duplicates.proofs.agreement.all_agree.Given as goal

abbrev pub invariant-loop-i : goal.invariant-loop-i
invariant-loop-i l = Agreeing l.words l.owners l.end l.waiting (l.i - 1)
