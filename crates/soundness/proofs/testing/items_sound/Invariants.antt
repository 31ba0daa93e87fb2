-- `soundness::testing::items_sound` meets its contract. The invariant: the first i items are admitted, and their homes kept.
-- Assumes nothing.
use mathlib.Core.Path.{◌≡◌}
use Prim.Native.Nat.{ℕ, ◌≤◌, ◌<◌}
use lib.ListN.{get_or}
use Rattle.placement.specs.File.{greatest}
use Rattle.soundness.proofs.Items.{Surveyed}
use Rattle.soundness.proofs.testing.items_sound.Given as goal

abbrev pub invariant-loop-i : goal.invariant-loop-i
invariant-loop-i l =
    (l.places ≤ 32)
    × Surveyed l.geometry.parameters l.geometry.growth l.separators l.page l.numbers l.words l.owners l.places l.i l.last l.homes
    × ((j : ℕ) → j < l.i → get_or l.numbers j 0 ≡ 0 → l.last ≡ greatest)
