-- As page_plan's settle_pages, ended early.
use mathlib.Core.Path.{◌≡◌}
use Prim.Native.Nat.{◌-◌}
use lib.ListN.{get_or, take}
use Rattle.pages.specs.Shape.{stretch}
use Rattle.page_plan.specs.Gather.{stars_in}
use Rattle.page_plan.specs.Plans.{Settling}
use Rattle.removal_reach.proofs.changed.settle_changed.Given as goal

abbrev pub invariant-loop-v : goal.invariant-loop-v
invariant-loop-v l =
    Settling l.parameters l.lo l.count 0 (take (get_or l.ends (l.count - 1) 0) l.initial.waiting) l.initial.waiting l.initial.pool l.initial.planned l.pool l.waiting l.planned l.from l.v
    × (l.stored ≡ stars_in 0 (stretch l.parameters.places l.lo l.v l.numbers))
