-- `soundness::testing::count_far` meets its contract. The invariant: if none of the first i is counted, none is homed below `low`.
-- Assumes nothing.
use mathlib.Core.Path.{◌≡◌}
use Prim.Native.Nat.{ℕ, ◌≤◌, ◌<◌}
use lib.ListN.{get_or}
use Rattle.soundness.proofs.testing.count_far.Given as goal

abbrev pub invariant-loop-i : goal.invariant-loop-i
invariant-loop-i l =
    (l.far ≤ l.i) × (l.far ≡ 0 → (j : ℕ) → j < l.i → (get_or l.numbers j 0 ≡ 0 → ⊥) → l.low ≤ get_or l.found j 0)
