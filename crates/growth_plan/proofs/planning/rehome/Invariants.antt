use Rattle.growth_plan.specs.Growth.{state_after}
use Rattle.growth_plan.proofs.Growing.{Rehomed}
use Rattle.growth_plan.proofs.planning.rehome.Given as goal

abbrev pub invariant-loop-i : goal.invariant-loop-i
invariant-loop-i l = Rehomed l.geometry.parameters l.geometry.growth (state_after l.back l.geometry.parameters l.geometry.growth) l.numbers l.homes l.i
