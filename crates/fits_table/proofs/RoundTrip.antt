-- A row that was written is read back; a row that is taken is the one that its star's bytes make.
-- Assumes nothing.
use mathlib.Core.Path.{◌≡◌, refl, sym, ap, ◌∙◌}
use mathlib.Core.Bool.{Bool, true, false, ◌&&◌}
use mathlib.Core.List.{List, [], ◌∷◌, ◌++◌}
use Prim.Native.Nat.{ℕ, suc, ◌+◌, ◌-◌, ◌*◌, ◌/◌, ◌%◌, ◌^◌, ◌≤◌, ◌<◌}
use native.Mathlib.Nat.{add-zero}
use native.Mathlib.Decide.{dec_lt}
use native.Mathlib.Omega.{arith}
use lib.Dec.{ltb, leb}
use lib.ListN.{length, get_or, take, drop}
use lib.Seq.{get_or-drop, drop-cons, drop-drop, take-add}
use lib.IntN.{pos, ◌-ℤ◌}
use borrow.Author.Tests.{lt-ltb, le-ltb, leb-true, ltb-true}
use Rattle.buffers.proofs.Tests.{and-true}
use Rattle.pages.specs.Position.{valid_number, valid_position, valid_word, packed, unpacked}
use Rattle.pages.specs.declared.position.Position.{Position}
use Rattle.pages.proofs.Words.{pack-valid, valid-word, unpack_valid, pack-unpack, unpack_pack}
use Rattle.fits_table.specs.declared.rows.Row.TheVariants.{Star}
use Rattle.fits_table.specs.Rows.{be32, from32, twos, signed, row_bytes, position_at, row_answer, row_at}

from-drop : (l : List ℕ) (at k : ℕ) → from32 l (at + k) ≡ from32 (drop at l) k
unfolding from32
from-drop l at k =
    let one : at + k + 1 ≡ at + (k + 1) = omega arith in
    let two : at + k + 2 ≡ at + (k + 2) = omega arith in
    let three : at + k + 3 ≡ at + (k + 3) = omega arith in
    rw (get_or-drop at l k 0, get_or-drop at l (k + 1) 0, get_or-drop at l (k + 2) 0, get_or-drop at l (k + 3) 0, one, two, three)

joined : (n : ℕ) → n < 4294967296 → n / 2 ^ 24 * 2 ^ 24 + n / 2 ^ 16 % 256 * 2 ^ 16 + n / 2 ^ 8 % 256 * 2 ^ 8 + n % 256 ≡ n
joined n h = omega arith

pub signed-twos : (a : ℕ) → a ≤ 648000000 → signed (twos (pos a -ℤ pos 324000000)) ≡ pos a -ℤ pos 324000000
unfolding signed twos
signed-twos a h = go (dec_lt a 324000000)
  where
    go : Dec (a < 324000000) → signed (twos (pos a -ℤ pos 324000000)) ≡ pos a -ℤ pos 324000000
    go (yes p) =
        let back : 4294967296 - suc (4294967296 - suc (324000000 - suc a)) ≡ 324000000 - suc a = omega arith in
        rw (lt-ltb a 324000000 p, le-ltb (4294967296 - suc (324000000 - suc a)) 2147483648 (omega arith), back)
    go (no p) = rw (le-ltb a 324000000 (omega arith), lt-ltb (a - 324000000) 2147483648 (omega arith))

twos_small : (a : ℕ) → a ≤ 648000000 → twos (pos a -ℤ pos 324000000) < 4294967296
unfolding twos
twos_small a h = go (dec_lt a 324000000)
  where
    go : Dec (a < 324000000) → twos (pos a -ℤ pos 324000000) < 4294967296
    go (yes p) = rw (lt-ltb a 324000000 p) (omega arith)
    go (no p) = rw (le-ltb a 324000000 (omega arith)) (omega arith)

-- the three numbers of a written row
module _ (l r : List ℕ) (at n w : ℕ) (is : drop at l ≡ row_bytes n w ++ r) (small : n < 4294967296) (ok : valid_word w ≡ true) where
  number_read : from32 l at ≡ n
  unfolding from32 row_bytes be32
  number_read = ap (from32 l) (sym (add-zero at)) ∙ from-drop l at 0 ∙ ap (λ (q : List ℕ). from32 q 0) is ∙ joined n small

  ra-read : from32 l (at + 4) ≡ w / 2 ^ 32
  unfolding from32 row_bytes be32 unpacked
  ra-read =
      let high : w / 2 ^ 32 ≤ 1295999999 = (valid-word w ok).high in
      from-drop l at 4 ∙ ap (λ (q : List ℕ). from32 q 4) is ∙ joined (w / 2 ^ 32) (omega arith)

  dec-read : from32 l (at + 8) ≡ twos (pos (w % 2 ^ 32) -ℤ pos 324000000)
  unfolding from32 row_bytes be32 unpacked
  dec-read =
      from-drop l at 8 ∙ ap (λ (q : List ℕ). from32 q 8) is ∙ joined (twos (pos (w % 2 ^ 32) -ℤ pos 324000000)) (twos_small (w % 2 ^ 32) (valid-word w ok).low)

  position-read : position_at l at ≡ unpacked w
  unfolding position_at unpacked
  position-read =
      let d : signed (from32 l (at + 8)) ≡ pos (w % 2 ^ 32) -ℤ pos 324000000 = ap signed dec-read ∙ signed-twos (w % 2 ^ 32) (valid-word w ok).low in
      λ i. record { ra = ra-read i; dec = d i }

  -- A WRITTEN ROW IS NOT REFUSED WITH 11, and gives its star
  pub row_read : (last : ℕ) → last < n → valid_number n ≡ true → row_at last l at ≡ Star n w
  unfolding row_at
  row_read last h v =
      rw (number_read, position-read, lt-ltb last n h, v, unpack_valid w ok, pack-unpack w ok)

-- what a taken row shows
star-parts : (t : Bool) (a b n w : ℕ) → row_answer t a b ≡ Star n w → (t ≡ true) × ((a ≡ n) × (b ≡ w))
star-parts true a b n w e = (refl, (cc, cc))
star-parts false a b n w e = let z : ◌≡◌ {A = ℕ} 0 1 = cc in absurd (omega arith)

twos-signed : (d : ℕ) → d < 4294967296 → twos (signed d) ≡ d
unfolding signed twos
twos-signed d h = go (dec_lt d 2147483648)
  where
    go : Dec (d < 2147483648) → twos (signed d) ≡ d
    go (yes p) = rw (lt-ltb d 2147483648 p)
    go (no p) = rw (le-ltb d 2147483648 (omega arith)) (omega arith)

split : (a b c d : ℕ) → a < 256 → b < 256 → c < 256 → d < 256 → be32 (a * 2 ^ 24 + b * 2 ^ 16 + c * 2 ^ 8 + d) ≡ a ∷ b ∷ c ∷ d ∷ []
unfolding be32
split a b c d ha hb hc hd =
    let e₁ : (a * 2 ^ 24 + b * 2 ^ 16 + c * 2 ^ 8 + d) / 2 ^ 24 ≡ a = omega arith in
    let e₂ : (a * 2 ^ 24 + b * 2 ^ 16 + c * 2 ^ 8 + d) / 2 ^ 16 % 256 ≡ b = omega arith in
    let e₃ : (a * 2 ^ 24 + b * 2 ^ 16 + c * 2 ^ 8 + d) / 2 ^ 8 % 256 ≡ c = omega arith in
    let e₄ : (a * 2 ^ 24 + b * 2 ^ 16 + c * 2 ^ 8 + d) % 256 ≡ d = omega arith in
    rw (e₁, e₂, e₃, e₄)

module _ (l : List ℕ) (bytes : (k : ℕ) → get_or l k 0 < 256) where
  from-small : (at : ℕ) → from32 l at < 4294967296
  unfolding from32
  from-small at = omega (arith, bytes at, bytes (at + 1), bytes (at + 2), bytes (at + 3))

  four_bytes : (at : ℕ) → at + 4 ≤ length l → be32 (from32 l at) ≡ take 4 (drop at l)
  unfolding from32
  four_bytes at h =
      let one : suc at ≡ at + 1 = omega arith in
      let two : suc (at + 1) ≡ at + 2 = omega arith in
      let three : suc (at + 2) ≡ at + 3 = omega arith in
      split (get_or l at 0) (get_or l (at + 1) 0) (get_or l (at + 2) 0) (get_or l (at + 3) 0) (bytes at) (bytes (at + 1)) (bytes (at + 2)) (bytes (at + 3))
      ∙ sym (ap (take 4) (drop-cons l at 0 (omega arith) ∙ ap (λ (k : ℕ). get_or l at 0 ∷ drop k l) one)
      ∙ ap (λ (q : List ℕ). get_or l at 0 ∷ take 3 q) (drop-cons l (at + 1) 0 (omega arith) ∙ ap (λ (k : ℕ). get_or l (at + 1) 0 ∷ drop k l) two)
      ∙ ap (λ (q : List ℕ). get_or l at 0 ∷ get_or l (at + 1) 0 ∷ take 2 q) (drop-cons l (at + 2) 0 (omega arith) ∙ ap (λ (k : ℕ). get_or l (at + 2) 0 ∷ drop k l) three)
      ∙ ap (λ (q : List ℕ). get_or l at 0 ∷ get_or l (at + 1) 0 ∷ get_or l (at + 2) 0 ∷ take 1 q) (drop-cons l (at + 3) 0 (omega arith)))

  position-fields : (at : ℕ) → be32 (position_at l at).ra ++ be32 (twos (position_at l at).dec) ≡ be32 (from32 l (at + 4)) ++ be32 (from32 l (at + 8))
  unfolding position_at
  position-fields at = ap (λ (k : ℕ). be32 (from32 l (at + 4)) ++ be32 k) (twos-signed (from32 l (at + 8)) (from-small (at + 8)))

  -- what is known of a row that was taken
  pub record Taken (last at n w : ℕ) : Type 0 where
    pub above : last < n
    pub number : valid_number n ≡ true
    pub word : valid_word w ≡ true
    pub is : take 12 (drop at l) ≡ row_bytes n w

  -- A ROW THAT IS TAKEN is the one that its star makes
  pub row_back : (last at n w : ℕ) → at + 12 ≤ length l → row_at last l at ≡ Star n w → Taken last at n w
  unfolding row_at row_bytes
  row_back last at n w h e =
      record {
        above = ltb-true last n (rw num at tests.0);
        number = rw num at tests.1.0;
        word = rw pack at (pack-valid (position_at l at) tests.1.1);
        is = cut ∙ rw (← four_bytes at (omega arith), ← four_bytes (at + 4) (omega arith), ← four_bytes (at + 8) (omega arith), num) (ap (λ (q : List ℕ). be32 n ++ q) (sym place));
      }
    where
      parts : (ltb last (from32 l at) && (valid_number (from32 l at) && valid_position (position_at l at)) ≡ true) × ((from32 l at ≡ n) × (packed (position_at l at) ≡ w))
      parts = star-parts (ltb last (from32 l at) && (valid_number (from32 l at) && valid_position (position_at l at))) (from32 l at) (packed (position_at l at)) n w e

      num : from32 l at ≡ n
      num = parts.1.0

      pack : packed (position_at l at) ≡ w
      pack = parts.1.1

      tests : (ltb last (from32 l at) ≡ true) × ((valid_number (from32 l at) ≡ true) × (valid_position (position_at l at) ≡ true))
      tests =
          let a = and-true (ltb last (from32 l at)) (valid_number (from32 l at) && valid_position (position_at l at)) parts.0 in
          (a.0, and-true (valid_number (from32 l at)) (valid_position (position_at l at)) a.1)

      unpacked-is : unpacked w ≡ position_at l at
      unpacked-is = ap unpacked (sym pack) ∙ unpack_pack (position_at l at) tests.1.1

      place : be32 (unpacked w).ra ++ be32 (twos (unpacked w).dec) ≡ be32 (from32 l (at + 4)) ++ be32 (from32 l (at + 8))
      place = ap (λ (p : Position). be32 p.ra ++ be32 (twos p.dec)) unpacked-is ∙ position-fields at

      cut : take 12 (drop at l) ≡ take 4 (drop at l) ++ (take 4 (drop (at + 4) l) ++ take 4 (drop (at + 8) l))
      cut =
          let eight : at + 4 + 4 ≡ at + 8 = omega arith in
          take-add 4 8 (drop at l)
          ∙ ap (λ (q : List ℕ). take 4 (drop at l) ++ take 8 q) (drop-drop 4 at l)
          ∙ ap (λ (q : List ℕ). take 4 (drop at l) ++ q) (take-add 4 4 (drop (at + 4) l) ∙ ap (λ (q : List ℕ). take 4 (drop (at + 4) l) ++ take 4 q) (drop-drop 4 (at + 4) l ∙ ap (λ (k : ℕ). drop k l) eight))

-- the number and the word of a taken row are those read
module _ (last : ℕ) (l : List ℕ) (at n w : ℕ) where
  both-parts : row_at last l at ≡ Star n w → (from32 l at ≡ n) × (packed (position_at l at) ≡ w)
  unfolding row_at
  both-parts e = (star-parts (ltb last (from32 l at) && (valid_number (from32 l at) && valid_position (position_at l at))) (from32 l at) (packed (position_at l at)) n w e).1

  pub taken-number : row_at last l at ≡ Star n w → from32 l at ≡ n
  taken-number e = (both-parts e).0

  pub taken_word : row_at last l at ≡ Star n w → packed (position_at l at) ≡ w
  taken_word e = (both-parts e).1

pub number_small : (n : ℕ) → valid_number n ≡ true → n < 4294967296
unfolding valid_number
number_small n e = omega (arith, leb-true n 2147483646 (and-true (leb 1 n) (leb n 2147483646) e).1)
