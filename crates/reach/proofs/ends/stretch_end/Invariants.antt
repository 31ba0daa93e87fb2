use Prim.Native.Nat.{◌-◌}
use lib.ListN.{length}
use Rattle.reach.specs.Reach.{stored_top}
use Rattle.reach.proofs.Search.{Sought}
use Rattle.reach.proofs.ends.stretch_end.Given as goal

abbrev pub invariant-loop-page : goal.invariant-loop-page
invariant-loop-page l = Sought (stored_top l.separators l.top) l.from (length l.separators - 1 - l.from) l.page
