-- The laws of scrambled numbers and signatures, for any multiplier.
use mathlib.Core.Path.{◌≡◌, ◌∙◌, ap}
use Prim.Native.Nat.{ℕ, ◌+◌, ◌-◌, ◌*◌, ◌%◌, ◌^◌, ◌≤◌, ◌<◌}
use native.Mathlib.Nat.{mod-lt}
use native.Mathlib.Omega.{arith}
use mathlib.Core.List.{List}
use lib.ListN.{get_or, length}
use lib.Pow.{pow_mono}
use Rattle.generator.specs.Generator.{modulus, scrambled, chain, top_of_lem, signature}
use Rattle.generator.specs.Shape.{power}
use Rattle.generator.proofs.Numbers.{mul_mod, mul_mod_right, shifted}
use Rattle.generator.proofs.Powers.{lent-entry}

pub top_least : (bits : ℕ) → 1 ≤ bits → 1 ≤ top_of_lem bits
unfolding top_of_lem
top_least bits h = omega (arith, pow_mono {i = 1} {j = bits} h)

pub top_most : (bits : ℕ) → bits ≤ 8 → top_of_lem bits ≤ 255
unfolding top_of_lem
top_most bits h = omega (arith, pow_mono {i = bits} {j = 8} h)

-- the same as a shift of 32 bits computes it
pub top_shifted : (bits : ℕ) → bits ≤ 8 → 1 * 2 ^ bits % 2 ^ 32 - 1 ≡ top_of_lem bits
unfolding top_of_lem
top_shifted bits h = rw (shifted bits 32 (omega arith))

-- a remainder by the greatest separator of k bits
pub top_at_lem : (n bits k : ℕ) → bits ≡ k → n % (2 ^ k - 1) ≡ n % top_of_lem bits
unfolding top_of_lem
top_at_lem n bits k e = rw e

-- a number times a power of the multiplier, which may be reduced
pub scrambled-by : (a j k : ℕ) → power a j * k % modulus ≡ scrambled a j k
unfolding power scrambled
scrambled-by a j k = mul_mod (a ^ j) modulus k

pub signature-below : (a bits k t : ℕ) → 1 ≤ bits → signature a bits k t < top_of_lem bits
unfolding signature
signature-below a bits k t h = mod-lt (scrambled a (2 * t + 1) k) (top_least bits h)

pub scrambled-below : (a j k : ℕ) → scrambled a j k < modulus
unfolding scrambled
scrambled-below a j k = omega arith

-- only the remainder of a number mod m counts
pub scrambled-key : (a j k : ℕ) → scrambled a j (k % modulus) ≡ scrambled a j k
unfolding scrambled
scrambled-key a j k = mul_mod_right (a ^ j) modulus k

-- a signature by its multiplier
pub signature-by : (a bits k t : ℕ) → power a (2 * t + 1) * k % modulus % top_of_lem bits ≡ signature a bits k t
unfolding signature scrambled power
signature-by a bits k t = ap (λ (x : ℕ). x % top_of_lem bits) (mul_mod (a ^ (2 * t + 1)) modulus k)

-- .. which a lent table has
pub lent-signature : (a bits k t : ℕ) (l : List ℕ) → l ≡ chain a 1 (length l) → 2 * t < length l → get_or l (2 * t) 0 * k % modulus % top_of_lem bits ≡ signature a bits k t
lent-signature a bits k t l e h = ap (λ (x : ℕ). x * k % modulus % top_of_lem bits) (lent-entry a l e (2 * t) h) ∙ signature-by a bits k t
