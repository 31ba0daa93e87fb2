-- Two numbers compared, with what the tests then say.
use mathlib.Core.Path.{◌≡◌}
use mathlib.Core.Bool.{true, false}
use Prim.Native.Nat.{ℕ, ◌<◌}
use native.Mathlib.Decide.{dec_lt}
use native.Mathlib.Omega.{arith}
use lib.Dec.{ltb, eqb}
use borrow.Author.Tests.{lt-ltb, le-ltb, eq-eqb, ne_eqb}

pub data Compared (a b : ℕ) : Type 0 where
  lower : a < b → ltb a b ≡ true → eqb a b ≡ false → Compared a b
  equal : a ≡ b → ltb a b ≡ false → eqb a b ≡ true → Compared a b
  higher : b < a → ltb a b ≡ false → eqb a b ≡ false → Compared a b

pub compared : (a b : ℕ) → Compared a b
compared a b = go (dec_lt a b) (dec_lt b a)
  where
    go : Dec (a < b) → Dec (b < a) → Compared a b
    go (yes h) (yes g) = absurd (omega arith)
    go (yes h) (no g) = lower h (lt-ltb a b h) (ne_eqb a b (λ e. omega arith))
    go (no h) (yes g) = higher g (le-ltb a b (omega arith)) (ne_eqb a b (λ e. omega arith))
    go (no h) (no g) = equal (omega arith) (le-ltb a b (omega arith)) (eq-eqb a b (omega arith))
