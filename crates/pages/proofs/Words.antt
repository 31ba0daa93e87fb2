-- Positions and their words: packing and unpacking are inverse between valid positions and valid words, and what the machine's
-- signed numbers come to in both.
-- Assumes nothing.
use mathlib.Core.Path.{◌≡◌, refl, ap, sym, ◌∙◌}
use mathlib.Core.Bool.{true, and-eq-true_iff}
use Prim.Native.Nat.{ℕ, suc, ◌-◌, ◌/◌, ◌%◌, ◌^◌, ◌≤◌, ◌<◌}
use native.Mathlib.Omega.{arith}
use borrow.Author.Tests.{leb-true, le-leb, le-ltb, lt-ltb}
use lib.Dec.{leb}
use lib.IntN.{ℤ, pos, negsuc, ◌+ℤ◌, ◌-ℤ◌, +ℤ-neg_ℤ_cancel, -ℤ-+ℤ_cancel}
use lib.Signed.{le_z}
use mir.Syntax.{w32}
use mir.Val.{SFits, to_z, of_z}
use mir.Facts.{to_z-of_z}
use mir.ValLaws.{to_z_pos}
use native.Mathlib.Decide.{dec_lt}
use Rattle.pages.specs.Position.{valid_position, valid_word, raised, packed, unpacked}
use Rattle.pages.specs.declared.position.Position.{Position}

-- a valid declination: it is within 32 bits, and raised it is a number up to 648,000,000
pub record Raised (z : ℤ) : Type 0 where
  pub fits : SFits w32 z
  pub is : z +ℤ pos 324000000 ≡ pos (raised z)
  pub small : raised z ≤ 648000000

below : (n : ℕ) → n ≤ 323999999 → negsuc n +ℤ pos 324000000 ≡ pos (324000000 - suc n)
below n h = rw (le-ltb 324000000 (suc n) (omega arith))

pub raises : (z : ℤ) → le_z (negsuc 323999999) z ≡ true → le_z z (pos 324000000) ≡ true → Raised z
raises (pos n) low high =
    let h : n ≤ 324000000 = leb-true n 324000000 high in
    record { fits = record { sfits = omega arith }; is = refl; small = omega arith }
raises (negsuc n) low high =
    let h : n ≤ 323999999 = leb-true n 323999999 low in
    let e : negsuc n +ℤ pos 324000000 ≡ pos (324000000 - suc n) = below n h in
    record { fits = record { sfits = omega arith }; is = rw e; small = rw e (omega arith) }

-- what a valid position tells
pub record Valid (p : Position) : Type 0 where
  pub first : p.ra ≤ 1295999999
  pub second : Raised p.dec

pub valid : (p : Position) → valid_position p ≡ true → Valid p
unfolding valid_position
valid p e =
    let parts = (and-eq-true_iff (leb p.ra 1295999999) _).0 e in
    let ends = (and-eq-true_iff (le_z (negsuc 323999999) p.dec) _).0 parts.1 in
    record { first = leb-true p.ra 1295999999 parts.0; second = raises p.dec ends.0 ends.1 }

pub record ValidWord (w : ℕ) : Type 0 where
  pub high : w / 2 ^ 32 ≤ 1295999999
  pub low : w % 2 ^ 32 ≤ 648000000

pub valid-word : (w : ℕ) → valid_word w ≡ true → ValidWord w
unfolding valid_word
valid-word w e =
    let parts = (and-eq-true_iff (leb (w / 2 ^ 32) 1295999999) _).0 e in
    record { high = leb-true _ _ parts.0; low = leb-true _ _ parts.1 }

-- a declination that is lowered again: valid, and within 32 bits
pub record Lowered (z : ℤ) : Type 0 where
  pub fits : SFits w32 z
  pub least : le_z (negsuc 323999999) z ≡ true
  pub most : le_z z (pos 324000000) ≡ true

pub lowers : (a : ℕ) → a ≤ 648000000 → Lowered (pos a -ℤ pos 324000000)
lowers a h = go (dec_lt a 324000000)
  where
    go : Dec (a < 324000000) → Lowered (pos a -ℤ pos 324000000)
    go (yes p) = rw (lt-ltb a 324000000 p) (record { fits = record { sfits = omega arith }; least = le-leb (324000000 - suc a) 323999999 (omega arith); most = refl })
    go (no p) = rw (le-ltb a 324000000 (omega arith)) (record { fits = record { sfits = omega arith }; least = refl; most = le-leb (a - 324000000) 324000000 (omega arith) })

-- the word's two halves
halves : (p : Position) → Valid p → (packed p / 2 ^ 32 ≡ p.ra) × (packed p % 2 ^ 32 ≡ raised p.dec)
unfolding packed
halves p v = omega (arith, v.second.small)

pub unpack_pack : (p : Position) → valid_position p ≡ true → unpacked (packed p) ≡ p
unfolding unpacked
unpack_pack p e =
    let v : Valid p = valid p e in
    let h = halves p v in
    let d : pos (packed p % 2 ^ 32) -ℤ pos 324000000 ≡ p.dec = ap (λ (n : ℕ). pos n -ℤ pos 324000000) h.1 ∙ ap (λ (z : ℤ). z -ℤ pos 324000000) (sym v.second.is) ∙ +ℤ-neg_ℤ_cancel p.dec (pos 324000000) in
    λ i. record { ra = h.0 i; dec = d i }

pub pack-unpack : (w : ℕ) → valid_word w ≡ true → packed (unpacked w) ≡ w
unfolding packed unpacked
pack-unpack w e = rw (-ℤ-+ℤ_cancel (pos (w % 2 ^ 32)) (pos 324000000)) (omega arith)

pub pack-valid : (p : Position) → valid_position p ≡ true → valid_word (packed p) ≡ true
unfolding valid_word
pack-valid p e =
    let v : Valid p = valid p e in
    let h = halves p v in
    rw (h.0, h.1, le-leb p.ra 1295999999 v.first, le-leb (raised p.dec) 648000000 v.second.small)

pub unpack_valid : (w : ℕ) → valid_word w ≡ true → valid_position (unpacked w) ≡ true
unfolding valid_position unpacked
unpack_valid w e =
    let v : ValidWord w = valid-word w e in
    let l : Lowered (pos (w % 2 ^ 32) -ℤ pos 324000000) = lowers (w % 2 ^ 32) v.low in
    rw (le-leb (w / 2 ^ 32) 1295999999 v.high, l.least, l.most)

pub word_below : (w : ℕ) → valid_word w ≡ true → w < 2 ^ 63
word_below w e = let v : ValidWord w = valid-word w e in omega arith

pub packed-below : (p : Position) → valid_position p ≡ true → packed p < 2 ^ 64
packed-below p e = omega (arith, word_below (packed p) (pack-valid p e))

-- the machine's sum and difference, read back from its 32 bits
pub raised-back : (z : ℤ) → Raised z → to_z w32 (of_z w32 (to_z w32 (of_z w32 z) +ℤ pos 324000000)) ≡ pos (raised z)
raised-back z r =
    let n : SFits w32 (pos (raised z)) = record { sfits = omega (arith, r.small) } in
    rw (to_z-of_z r.fits, r.is) (to_z-of_z n)

pub lowered-back : (a : ℕ) → a ≤ 648000000 → to_z w32 (of_z w32 (to_z w32 a -ℤ pos 324000000)) ≡ pos a -ℤ pos 324000000
lowered-back a h = rw (to_z_pos w32 a (omega arith)) (to_z-of_z (lowers a h).fits)
