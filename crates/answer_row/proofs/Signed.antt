-- A signed number of 32 bits, raised by 2^31: what the machine's sum comes to.
use mathlib.Core.Path.{◌≡◌, refl}
use Prim.Native.Nat.{suc, ◌-◌, ◌^◌, ◌≤◌, ◌<◌}
use native.Mathlib.Omega.{arith}
use borrow.Author.Tests.{le-ltb}
use lib.IntN.{ℤ, pos, negsuc, ◌+ℤ◌}
use mir.Syntax.{w32, w64}
use mir.Val.{SFits, to_z, of_z}
use mir.Facts.{to_z-of_z, sfits_widen}
use Rattle.answer_row.specs.Rows.{shifted}

pub record Lifted (z : ℤ) : Type 0 where
  pub is : z +ℤ pos 2147483648 ≡ pos (shifted z)
  pub small : shifted z < 2 ^ 32

pub lifts : (z : ℤ) → SFits w32 z → Lifted z
unfolding shifted
lifts (pos n) f = record { is = refl; small = omega (arith, f.sfits) }
lifts (negsuc n) f =
    let h : suc n ≤ 2147483648 = omega (arith, f.sfits) in
    let e : negsuc n +ℤ pos 2147483648 ≡ pos (2147483648 - suc n) = rw (le-ltb 2147483648 (suc n) h) in
    record { is = rw e; small = rw e (omega arith) }

-- the machine's number of 32 bits, in 64 bits
pub widened : (z : ℤ) → SFits w32 z → to_z w64 (of_z w64 (to_z w32 (of_z w32 z))) ≡ z
widened z f = rw (to_z-of_z f) (to_z-of_z (sfits_widen {w' = w64} tt f))

pub sum_fits : (z : ℤ) → SFits w32 z → SFits w64 (z +ℤ pos 2147483648)
sum_fits z f = rw (lifts z f).is (record { sfits = omega (arith, (lifts z f).small) })

pub lifted_back : (z : ℤ) → SFits w32 z → to_z w64 (of_z w64 (to_z w64 (of_z w64 (to_z w32 (of_z w32 z))) +ℤ pos 2147483648)) ≡ pos (shifted z)
lifted_back z f =
    let n : SFits w64 (pos (shifted z)) = record { sfits = omega (arith, (lifts z f).small) } in
    rw (widened z f, (lifts z f).is) (to_z-of_z n)
