-- `own_stars::entering::enter_own` meets its contract.
use Rattle.placement.specs.Hash.{lent}
use Rattle.own_stars.proofs.Placing.{Rolling}
use Rattle.own_stars.proofs.entering.enter_own.Given as goal

abbrev pub invariant-loop-i : goal.invariant-loop-i
invariant-loop-i l =
    Rolling l.geometry.parameters l.geometry.growth (lent l.initial.separators l.initial.numbers l.initial.words l.initial.owners) (lent l.separators l.numbers l.words l.owners) l.own l.pool l.waiting l.poolowners l.from l.i
