-- `homes::passes::steps` meets its contract. The invariant: stage, pages and groups are those after i steps.
use Rattle.std.proofs.Common.{◌≡◌, length}
use Rattle.homes.specs.Stages.{stage_at}
use Rattle.homes.specs.Lanes.{Blocks, GroupedAt, PagedAt}
use Rattle.homes.proofs.passes.steps.Given as goal

abbrev pub invariant-loop-i : goal.invariant-loop-i
invariant-loop-i l =
    (l.stage ≡ stage_at l.geometry.parameters l.i)
    × ((length l.groups ≡ 32) × (length l.pages ≡ 32))
    × Blocks l.places (GroupedAt l.geometry l.keys l.i l.groups)
    × Blocks l.places (PagedAt l.geometry l.keys l.i l.pages)
