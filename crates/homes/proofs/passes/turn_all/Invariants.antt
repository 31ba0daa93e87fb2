-- `homes::passes::turn_all` meets its contract. The invariant: the blocks below `at` are stepped, and the others are as they were.
use Rattle.std.proofs.Common.{◌≡◌, ◌+◌, ◌-◌, ◌%◌, length}
use Rattle.homes.specs.Lanes.{Blocks, PagedAt, RegroupedAt}
use Rattle.homes.proofs.Lists.{Kept}
use Rattle.homes.proofs.passes.turn_all.Given as goal

abbrev pub invariant-loop-at : goal.invariant-loop-at
invariant-loop-at l =
    (l.at % 8 ≡ 0)
    × ((length l.groups ≡ 32) × (length l.pages ≡ 32))
    × (Blocks l.at (RegroupedAt l.geometry l.keys l.i l.groups) × Blocks l.at (PagedAt l.geometry l.keys (l.i + 1) l.pages))
    × (Kept l.at l.groups l.initial.groups × Kept l.at l.pages l.initial.pages)

abbrev pub decreases-loop-at : goal.decreases-loop-at
decreases-loop-at l = l.places - l.at
