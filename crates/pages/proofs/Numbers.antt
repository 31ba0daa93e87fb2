-- The numbers that a star can have.
use mathlib.Core.Path.{◌≡◌}
use mathlib.Core.Bool.{true}
use Prim.Native.Nat.{ℕ, ◌≤◌}
use lib.Dec.{leb}
use borrow.Author.Tests.{leb-true, le-leb}
use Rattle.buffers.proofs.Tests.{and-true}
use Rattle.pages.specs.Position.{valid_number}

pub number-range : (k : ℕ) → valid_number k ≡ true → (1 ≤ k) × (k ≤ 2147483646)
unfolding valid_number
number-range k e = let t = and-true (leb 1 k) (leb k 2147483646) e in (leb-true 1 k t.0, leb-true k 2147483646 t.1)

pub number-valid : (k : ℕ) → 1 ≤ k → k ≤ 2147483646 → valid_number k ≡ true
unfolding valid_number
number-valid k l h = rw (le-leb 1 k l, le-leb k 2147483646 h)
