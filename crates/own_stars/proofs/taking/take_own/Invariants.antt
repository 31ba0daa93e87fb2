-- `own_stars::taking::take_own` meets its contract.
use Rattle.placement.specs.Hash.{lent}
use Rattle.own_stars.proofs.Placing.{Emptying}
use Rattle.own_stars.proofs.taking.take_own.Given as goal

abbrev pub invariant-loop-i : goal.invariant-loop-i
invariant-loop-i l =
    Emptying l.geometry.parameters l.geometry.growth (lent l.initial.separators l.initial.numbers l.initial.words l.initial.owners) (lent l.separators l.numbers l.words l.owners) l.own l.pool l.waiting l.poolowners l.i
