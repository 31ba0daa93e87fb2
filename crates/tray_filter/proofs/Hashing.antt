-- X1, X2 and X3 by products with the multiplier, and bits by shifts.
use mathlib.Core.Path.{◌≡◌, refl, ◌∙◌}
use mathlib.Core.Bool.{Bool, true, false, cond, ◌||◌, false≢true}
use Prim.Native.Nat.{ℕ, suc, ◌+◌, ◌*◌, ◌/◌, ◌%◌, ◌^◌, ◌<◌}
use native.Mathlib.Nat.{pow-zero, pow-succ', mul_assoc, mul-one}
use native.Mathlib.Omega.{arith}
use lib.Dec.{eqb}
use borrow.Author.Tests.{eqb-true}
use Rattle.generator.specs.Generator.{valid_multiplier, modulus, scrambled}
use Rattle.generator.proofs.Numbers.{mul_mod_right}
use Rattle.reports.specs.Bits.{bit_of, with_bit_lem}
use Rattle.reports.proofs.Words.{with_below}

pub next-scrambled : (a j k : ℕ) → a * scrambled a j k % modulus ≡ scrambled a (suc j) k
unfolding scrambled
next-scrambled a j k = mul_mod_right a modulus (a ^ j * k) ∙ rw (pow-succ' a j, mul_assoc)

pub first-scrambled : (a k : ℕ) → a * (k % modulus) % modulus ≡ scrambled a 1 k
unfolding scrambled
first-scrambled a k = mul_mod_right a modulus k ∙ rw (pow-succ' a 0, pow-zero, mul-one)

pub valid-below : (a : ℕ) → valid_multiplier a ≡ true → a < modulus
unfolding valid_multiplier
valid-below a v = go (eqb a 16807) (eqb a 48271) refl refl v
  where
    go : (s t : Bool) → eqb a 16807 ≡ s → eqb a 48271 ≡ t → s || t ≡ true → a < modulus
    go true t e e' v = omega (arith, eqb-true a 16807 e)
    go false true e e' v = omega (arith, eqb-true a 48271 e')
    go false false e e' v = absurd (false≢true v)

-- a bit that is not set may be added
pub added-below : (w i : ℕ) → i < 64 → w < 2 ^ 64 → bit_of w i ≡ false → w + 2 ^ i < 2 ^ 64
unfolding with_bit_lem
added-below w i h fits off = rw off at (with_below 64 i w h fits)
