-- Rows: two's complement, and the tests of a row.
-- Assumes nothing.
use mathlib.Core.Path.{◌≡◌, refl, sym, ap, ◌∙◌}
use mathlib.Core.Bool.{true, false, ◌&&◌}
use mathlib.Core.List.{List, ◌++◌}
use Prim.Native.Nat.{ℕ, suc, ◌+◌, ◌-◌, ◌*◌, ◌/◌, ◌%◌, ◌^◌, ◌≤◌, ◌<◌}
use native.Mathlib.Decide.{dec_lt, dec_le}
use native.Mathlib.Omega.{arith}
use lib.Dec.{leb}
use lib.ListN.{length}
use lib.IntN.{pos, negsuc, ◌-ℤ◌}
use lib.Signed.{le_z}
use borrow.Author.Tests.{lt-ltb, le-ltb, le-leb, lt-leb}
use Rattle.buffers.specs.Lists.{written}
use Rattle.buffers.proofs.Written.{written-add}
use Rattle.pages.specs.Position.{raised, unpacked, packed, valid_number, valid_position}
use Rattle.fits_table.specs.declared.rows.Row.TheVariants.{Star, Wrong}
use Rattle.fits_table.specs.Rows.{be32, twos, signed, row_bytes, from32, position_at, row_at, good_rows, good_after}

-- the raised declination, lowered
pub twos-lowered : (a : ℕ) → a ≤ 648000000 → twos (pos a -ℤ pos 324000000) ≡ (a + 3970967296) % 4294967296
unfolding twos
twos-lowered a h = go (dec_lt a 324000000)
  where
    go : Dec (a < 324000000) → twos (pos a -ℤ pos 324000000) ≡ (a + 3970967296) % 4294967296
    go (yes p) = rw (lt-ltb a 324000000 p) (omega arith)
    go (no p) = rw (le-ltb a 324000000 (omega arith)) (omega arith)

pub row_written : (o : List ℕ) (at n w : ℕ) → at + 12 ≤ length o → w % 2 ^ 32 ≤ 648000000
    → written (at + 8) (be32 ((w % 2 ^ 32 + 3970967296) % 4294967296)) (written (at + 4) (be32 (w / 2 ^ 32)) (written at (be32 n) o)) ≡ written at (row_bytes n w) o
unfolding row_bytes unpacked be32
row_written o at n w h small =
    let d : twos (pos (w % 2 ^ 32) -ℤ pos 324000000) ≡ (w % 2 ^ 32 + 3970967296) % 4294967296 = twos-lowered (w % 2 ^ 32) small in
    let eight : at + 8 ≡ at + length (be32 n ++ be32 (w / 2 ^ 32)) = refl in
    ap (written (at + 8) (be32 ((w % 2 ^ 32 + 3970967296) % 4294967296))) (written-add at (be32 n) (be32 (w / 2 ^ 32)) o (omega arith))
    ∙ written-add at (be32 n ++ be32 (w / 2 ^ 32)) (be32 ((w % 2 ^ 32 + 3970967296) % 4294967296)) o (omega arith)
    ∙ ap (λ (l : List ℕ). written at (be32 n ++ (be32 (w / 2 ^ 32) ++ l)) o) (ap be32 (sym d))

pub row_steps : (o b₁ b₂ b₃ : List ℕ) (at n w d : ℕ) → at + 12 ≤ length o → w % 2 ^ 32 ≤ 648000000
    → b₁ ≡ written at (be32 n) o → b₂ ≡ written (at + 4) (be32 (w / 2 ^ 32)) b₁ → b₃ ≡ written (at + 8) (be32 d) b₂ → d ≡ (w % 2 ^ 32 + 3970967296) % 4294967296
    → b₃ ≡ written at (row_bytes n w) o
row_steps o b₁ b₂ b₃ at n w d h small e₁ e₂ e₃ ed =
    e₃ ∙ ap (λ (k : ℕ). written (at + 8) (be32 k) b₂) ed
    ∙ ap (written (at + 8) (be32 ((w % 2 ^ 32 + 3970967296) % 4294967296))) (e₂ ∙ ap (written (at + 4) (be32 (w / 2 ^ 32))) e₁)
    ∙ row_written o at n w h small

-- a stored declination is in range if its raised value is
pub in_range : (d : ℕ) → d < 4294967296
    → le_z (negsuc 323999999) (signed d) && le_z (signed d) (pos 324000000) ≡ leb ((d + 324000000) % 4294967296) 648000000
unfolding signed
in_range d h = go (dec_lt d 2147483648) (dec_le d 324000000) (dec_le 3970967296 d)
  where
    go : Dec (d < 2147483648) → Dec (d ≤ 324000000) → Dec (3970967296 ≤ d)
        → le_z (negsuc 323999999) (signed d) && le_z (signed d) (pos 324000000) ≡ leb ((d + 324000000) % 4294967296) 648000000
    go (yes p) (yes q) r =
        rw (lt-ltb d 2147483648 p, le-leb d 324000000 q, le-leb ((d + 324000000) % 4294967296) 648000000 (omega arith))
    go (yes p) (no q) r =
        rw (lt-ltb d 2147483648 p, lt-leb d 324000000 (omega arith), lt-leb ((d + 324000000) % 4294967296) 648000000 (omega arith))
    go (no p) q (yes r) =
        rw (le-ltb d 2147483648 (omega arith), le-leb (4294967296 - suc d) 323999999 (omega arith), le-leb ((d + 324000000) % 4294967296) 648000000 (omega arith))
    go (no p) q (no r) =
        rw (le-ltb d 2147483648 (omega arith), lt-leb (4294967296 - suc d) 323999999 (omega arith), lt-leb ((d + 324000000) % 4294967296) 648000000 (omega arith))

pub raised_is : (d : ℕ) → d < 4294967296 → (d + 324000000) % 4294967296 ≤ 648000000 → raised (signed d) ≡ (d + 324000000) % 4294967296
unfolding signed
raised_is d h small = go (dec_lt d 2147483648)
  where
    go : Dec (d < 2147483648) → raised (signed d) ≡ (d + 324000000) % 4294967296
    go (yes p) = rw (lt-ltb d 2147483648 p) (omega arith)
    go (no p) = rw (le-ltb d 2147483648 (omega arith), le-ltb 324000000 (suc (4294967296 - suc d)) (omega arith)) (omega arith)

-- a row tested, in the code's order
module _ (last : ℕ) (l : List ℕ) (at : ℕ) where
  pub row_low : from32 l at ≤ last → Wrong ≡ row_at last l at
  unfolding row_at
  row_low h = rw (le-ltb last (from32 l at) h)

  pub row_number : last < from32 l at → valid_number (from32 l at) ≡ false → Wrong ≡ row_at last l at
  unfolding row_at
  row_number h e = rw (lt-ltb last (from32 l at) h, e)

  pub row_ra : last < from32 l at → valid_number (from32 l at) ≡ true → 1295999999 < from32 l (at + 4) → Wrong ≡ row_at last l at
  unfolding row_at position_at valid_position
  row_ra h e g = rw (lt-ltb last (from32 l at) h, e, lt-leb (from32 l (at + 4)) 1295999999 g)

  pub row_dec : last < from32 l at → valid_number (from32 l at) ≡ true → from32 l (at + 4) ≤ 1295999999 → from32 l (at + 8) < 4294967296
      → 648000000 < (from32 l (at + 8) + 324000000) % 4294967296 → Wrong ≡ row_at last l at
  unfolding row_at position_at valid_position
  row_dec h e g b d =
      rw (lt-ltb last (from32 l at) h, e, le-leb (from32 l (at + 4)) 1295999999 g, in_range (from32 l (at + 8)) b, lt-leb ((from32 l (at + 8) + 324000000) % 4294967296) 648000000 d)

  pub row_good : last < from32 l at → valid_number (from32 l at) ≡ true → from32 l (at + 4) ≤ 1295999999 → from32 l (at + 8) < 4294967296
      → (from32 l (at + 8) + 324000000) % 4294967296 ≤ 648000000
      → Star (from32 l at) (from32 l (at + 4) * 4294967296 + (from32 l (at + 8) + 324000000) % 4294967296) ≡ row_at last l at
  unfolding row_at position_at valid_position packed
  row_good h e g b d =
      rw (lt-ltb last (from32 l at) h, e, le-leb (from32 l (at + 4)) 1295999999 g, in_range (from32 l (at + 8)) b, le-leb ((from32 l (at + 8) + 324000000) % 4294967296) 648000000 d, raised_is (from32 l (at + 8)) b d)

-- rows tested one by one
pub good-open : (last : ℕ) (l : List ℕ) (at i count : ℕ) → i < count → good_rows last l (at + 12 * i) (count - i) ≡ good_after (row_at last l (at + 12 * i)) (λ (k : ℕ). good_rows k l (at + 12 * (i + 1)) (count - (i + 1)))
unfolding good_rows
good-open last l at i count h =
    let left : count - i ≡ suc (count - (i + 1)) = omega arith in
    let next : at + 12 * i + 12 ≡ at + 12 * (i + 1) = omega arith in
    rw (left) (ap (λ (a : ℕ). good_after (row_at last l (at + 12 * i)) (λ (k : ℕ). good_rows k l a (count - (i + 1)))) next)

pub good-end : (last : ℕ) (l : List ℕ) (at i count : ℕ) → count ≤ i → good_rows last l (at + 12 * i) (count - i) ≡ true
unfolding good_rows
good-end last l at i count h = let none : count - i ≡ 0 = omega arith in rw none
