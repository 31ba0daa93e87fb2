-- A signed number's text, from its sign and its size as the code computes them.
use Prim.Native.Nat.{ℕ, zero, suc}
use native.Mathlib.Omega.{arith}
use mathlib.Core.Bool.{true, false, true≢false}
use mathlib.Core.List.{[], ◌∷◌, ◌++◌}
use mathlib.Core.Path.{◌≡◌}
use borrow.Author.Tests.{ltb-true}
use lib.Dec.{T}
use lib.IntN.{ℤ, pos, negsuc, neg_ℤ, nat_abs, ◌-ℤ◌, +ℤ_idl}
use lib.Signed.{lt_z, non_neg}
use mir.Syntax.{w32, w64}
use mir.Val.{Fits, SFits, to_z, of_z}
use mir.ValLaws.{to_z-of_z}
use Rattle.lines.specs.Replies.{signed_digits, field_bytes}

-- z, and minus z, as a 64-bit number made of 32 bits
abbrev pub wide : ℤ → ℤ
wide z = to_z w64 (of_z w64 (to_z w32 (of_z w32 z)))

abbrev pub minus : ℤ → ℤ
minus z = to_z w64 (of_z w64 (pos 0 -ℤ wide z))

fits-64 : (z : ℤ) → SFits w32 z → SFits w64 z
fits-64 (pos n) f = record { sfits = omega (arith, f.sfits) }
fits-64 (negsuc n) f = record { sfits = omega (arith, f.sfits) }

minus-64 : (z : ℤ) → SFits w32 z → SFits w64 (neg_ℤ z)
minus-64 (pos zero) f = record { sfits = omega arith }
minus-64 (pos (suc n)) f = record { sfits = omega (arith, f.sfits) }
minus-64 (negsuc n) f = record { sfits = omega (arith, f.sfits) }

module _ (z : ℤ) (f : SFits w32 z) where
  pub widens : SFits w64 (to_z w32 (of_z w32 z))
  widens = rw (to_z-of_z w32 z f) (fits-64 z f)

  wide_is : wide z ≡ z
  wide_is = rw (to_z-of_z w32 z f) (to_z-of_z w64 z (fits-64 z f))

  pub minus-fits : SFits w64 (pos 0 -ℤ wide z)
  minus-fits = rw (wide_is, +ℤ_idl (neg_ℤ z)) (minus-64 z f)

  minus_is : minus z ≡ neg_ℤ z
  minus_is = rw (wide_is, +ℤ_idl (neg_ℤ z)) (to_z-of_z w64 (neg_ℤ z) (minus-64 z f))

not_negative : (n : ℕ) → lt_z (pos n) (pos 0) ≡ true → ⊥
not_negative n e = omega (arith, ltb-true n 0 e)

pub size_below : (z : ℤ) → SFits w32 z → lt_z (to_z w32 (of_z w32 z)) (pos 0) ≡ true → T (non_neg (minus z)) × Fits w32 (nat_abs (minus z))
size_below (pos n) f e = absurd (not_negative n (rw (to_z-of_z w32 (pos n) f) at e))
size_below (negsuc n) f e = rw (minus_is (negsuc n) f) (tt, record { fits = omega (arith, f.sfits) })

pub text_below :
    (z : ℤ) → SFits w32 z → lt_z (to_z w32 (of_z w32 z)) (pos 0) ≡ true →
    signed_digits z ++ (10 ∷ []) ≡ 45 ∷ field_bytes (nat_abs (minus z)) 10
unfolding signed_digits field_bytes
text_below (pos n) f e = absurd (not_negative n (rw (to_z-of_z w32 (pos n) f) at e))
text_below (negsuc n) f e = rw (minus_is (negsuc n) f)

not_positive : (n : ℕ) → lt_z (negsuc n) (pos 0) ≡ false → ⊥
not_positive n e = true≢false e

pub size_above :
    (z : ℤ) → SFits w32 z → lt_z (to_z w32 (of_z w32 z)) (pos 0) ≡ false →
    T (non_neg (to_z w32 (of_z w32 z))) × Fits w32 (nat_abs (to_z w32 (of_z w32 z)))
size_above (pos n) f e = rw (to_z-of_z w32 (pos n) f) (tt, record { fits = omega (arith, f.sfits) })
size_above (negsuc n) f e = absurd (not_positive n (rw (to_z-of_z w32 (negsuc n) f) at e))

pub text_above :
    (z : ℤ) → SFits w32 z → lt_z (to_z w32 (of_z w32 z)) (pos 0) ≡ false →
    signed_digits z ++ (10 ∷ []) ≡ field_bytes (nat_abs (to_z w32 (of_z w32 z))) 10
unfolding signed_digits field_bytes
text_above (pos n) f e = rw (to_z-of_z w32 (pos n) f)
text_above (negsuc n) f e = absurd (not_positive n (rw (to_z-of_z w32 (negsuc n) f) at e))
