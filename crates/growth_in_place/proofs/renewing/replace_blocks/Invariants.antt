use Prim.Native.Nat.{◌-◌}
use Rattle.placement.specs.Hash.{lent}
use Rattle.growth_in_place.proofs.Renewed.{Renewed}
use Rattle.growth_in_place.proofs.renewing.replace_blocks.Given as goal

abbrev pub invariant-loop-lo : goal.invariant-loop-lo
invariant-loop-lo l =
    Renewed l.geometry (lent l.initial.separators l.initial.numbers l.initial.words l.initial.owners) (lent l.separators l.numbers l.words l.owners) l.pool l.waiting l.poolowners l.lo

abbrev pub decreases-loop-lo : goal.decreases-loop-lo
decreases-loop-lo l = l.pages - l.lo
