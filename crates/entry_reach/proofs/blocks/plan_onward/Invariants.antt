use mathlib.Core.Path.{◌≡◌}
use mathlib.Core.Bool.{true}
use Prim.Native.Nat.{ℕ, ◌-◌, ◌≤◌}
use lib.ListN.{length, take}
use Rattle.pages.specs.Position.{valid_number}
use Rattle.placement.specs.Hash.{lent}
use Rattle.page_separator.specs.Probes.{homes_up_to}
use Rattle.entry_reach.specs.Entry.{Unheld, Extends}
use Rattle.entry_reach.specs.Blocks.{Reached}
use Rattle.entry_reach.proofs.blocks.plan_onward.Given as goal

abbrev pub invariant-loop-page : goal.invariant-loop-page
invariant-loop-page l =
    (length l.pool ≡ length l.initial.pool)
    × ((length l.waiting ≡ length l.initial.waiting)
    × ((length l.planned ≡ length l.initial.planned)
    × ((l.carried ≤ length l.waiting)
    × ((homes_up_to l.block.first (take l.carried l.waiting) ≡ true)
    × (Extends l.geometry.parameters l.geometry.growth (lent l.separators l.numbers l.words l.owners) l.pool l.block
    × ((k start : ℕ) → valid_number k ≡ true → Unheld l.geometry.parameters l.geometry.growth (lent l.separators l.numbers l.words l.owners) k
    → Reached l.geometry.parameters l.geometry.growth (lent l.separators l.numbers l.words l.owners) k start l.initial.block.first l.initial.pool l.initial.planned (take l.initial.carried l.initial.waiting)
    → Reached l.geometry.parameters l.geometry.growth (lent l.separators l.numbers l.words l.owners) k start l.block.first l.pool l.planned (take l.carried l.waiting)))))))

abbrev pub decreases-loop-page : goal.decreases-loop-page
decreases-loop-page l =
    l.geometry.parameters.pages - l.block.first
