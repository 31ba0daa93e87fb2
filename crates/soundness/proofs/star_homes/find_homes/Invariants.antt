-- `soundness::star_homes::find_homes` meets its contract.
use mathlib.Core.Path.{◌≡◌}
use Prim.Native.Nat.{◌-◌, ◌≤◌}
use lib.ListN.{length, drop}
use lib.Seq.{paste}
use Rattle.placement.specs.Shape.{homes_of}
use Rattle.soundness.proofs.star_homes.find_homes.Given as goal

-- the first i items have their homes
abbrev pub invariant-loop-i : goal.invariant-loop-i
invariant-loop-i l =
    (l.i ≤ l.items)
    × (length l.homes ≡ length l.initial.homes)
    × (l.homes ≡ paste l.initial.homes l.to (homes_of l.geometry.parameters l.geometry.growth (drop l.first l.numbers)) l.i)

abbrev pub decreases-loop-i : goal.decreases-loop-i
decreases-loop-i l = l.items - l.i
