-- A bit set and then read: of a word, and of the filter.
use mathlib.Core.Path.{◌≡◌, refl, sym, ap, ◌∙◌}
use mathlib.Core.Bool.{Bool, true, false, cond, ◌||◌}
use mathlib.Core.List.{List}
use Prim.Native.Nat.{ℕ, zero, suc, ◌+◌, ◌/◌, ◌%◌, ◌^◌, ◌<◌}
use native.Mathlib.Nat.{pow-succ', div-div-eq-div-mul, div-one}
use native.Mathlib.Omega.{arith}
use lib.Dec.{eqb, eqb-zero-suc, eqb-suc-zero, eqb-suc-suc}
use lib.ListN.{length, get_or, set, length-set, get_or-replicate}
use lib.Seq.{get_or-set_same, get_or-set_other}
use borrow.Author.Tests.{eq-eqb, ne_eqb, eqb-true, eqb-false}
use Rattle.reports.specs.Bits.{bit_of, with_bit_lem, bit_at, bit_set, no_bits}

-- Of a word

pub bit-zero : (w : ℕ) → bit_of w 0 ≡ eqb (w % 2) 1
unfolding bit_of
bit-zero w = ap (λ (x : ℕ). eqb (x % 2) 1) (div-one w)

pub bit-suc : (w i : ℕ) → bit_of w (suc i) ≡ bit_of (w / 2) i
unfolding bit_of
bit-suc w i = ap (λ (x : ℕ). eqb (x % 2) 1) (ap (λ (x : ℕ). w / x) (pow-succ' 2 i) ∙ sym (div-div-eq-div-mul w 2 (2 ^ i)))

-- a higher bit set leaves the lowest
pub with_half : (w i : ℕ) → with_bit_lem w (suc i) / 2 ≡ with_bit_lem (w / 2) i
unfolding with_bit_lem
with_half w i = ap (λ (t : Bool). cond t w (w + 2 ^ suc i) / 2) (bit-suc w i) ∙ go (bit_of (w / 2) i)
  where
    go : (t : Bool) → cond t w (w + 2 ^ suc i) / 2 ≡ cond t (w / 2) (w / 2 + 2 ^ i)
    go true = refl
    go false = omega (arith, pow-succ' 2 i)

with_low : (w i : ℕ) → with_bit_lem w (suc i) % 2 ≡ w % 2
unfolding with_bit_lem
with_low w i = go (bit_of w (suc i))
  where
    go : (t : Bool) → cond t w (w + 2 ^ suc i) % 2 ≡ w % 2
    go true = refl
    go false = omega (arith, pow-succ' 2 i)

-- the lowest set leaves the higher ones
pub zero_half : (w : ℕ) → with_bit_lem w 0 / 2 ≡ w / 2
unfolding with_bit_lem
zero_half w = ap (λ (t : Bool). cond t w (w + 1) / 2) (bit-zero w) ∙ go (eqb (w % 2) 1) refl
  where
    go : (t : Bool) → eqb (w % 2) 1 ≡ t → cond t w (w + 1) / 2 ≡ w / 2
    go true e = refl
    go false e = omega (arith, eqb-false (w % 2) 1 e)

zero_low : (w : ℕ) → with_bit_lem w 0 % 2 ≡ 1
unfolding with_bit_lem
zero_low w = ap (λ (t : Bool). cond t w (w + 1) % 2) (bit-zero w) ∙ go (eqb (w % 2) 1) refl
  where
    go : (t : Bool) → eqb (w % 2) 1 ≡ t → cond t w (w + 1) % 2 ≡ 1
    go true e = eqb-true (w % 2) 1 e
    go false e = omega (arith, eqb-false (w % 2) 1 e)

pub bit-with : (a b w : ℕ) → bit_of (with_bit_lem w a) b ≡ eqb b a || bit_of w b
bit-with zero zero w = bit-zero (with_bit_lem w 0) ∙ ap (λ (x : ℕ). eqb x 1) (zero_low w)
bit-with zero (suc b) w = bit-suc (with_bit_lem w 0) b ∙ ap (λ (x : ℕ). bit_of x b) (zero_half w) ∙ sym (bit-suc w b) ∙ ap (λ (t : Bool). t || bit_of w (suc b)) (sym (eqb-suc-zero b))
bit-with (suc a) zero w = bit-zero (with_bit_lem w (suc a)) ∙ ap (λ (x : ℕ). eqb x 1) (with_low w a) ∙ sym (bit-zero w) ∙ ap (λ (t : Bool). t || bit_of w 0) (sym (eqb-zero-suc a))
bit-with (suc a) (suc b) w =
    bit-suc (with_bit_lem w (suc a)) b
    ∙ ap (λ (x : ℕ). bit_of x b) (with_half w a)
    ∙ bit-with a b (w / 2)
    ∙ ap (λ (t : Bool). eqb b a || t) (sym (bit-suc w b))
    ∙ ap (λ (t : Bool). t || bit_of w (suc b)) (sym (eqb-suc-suc b a))

no_bit : (i : ℕ) → bit_of 0 i ≡ false
no_bit zero = bit-zero 0
no_bit (suc i) = bit-suc 0 i ∙ no_bit i

-- Of the filter

pub length-bit_set : (f : List ℕ) (j : ℕ) → length (bit_set f j) ≡ length f
unfolding bit_set
length-bit_set f j = length-set f (j / 64) (with_bit_lem (get_or f (j / 64) 0) (j % 64))

same_word : (i j : ℕ) → i / 64 ≡ j / 64 → eqb (i % 64) (j % 64) ≡ eqb i j
same_word i j e = go (eqb (i % 64) (j % 64)) refl
  where
    go : (t : Bool) → eqb (i % 64) (j % 64) ≡ t → t ≡ eqb i j
    go true d = let same : i % 64 ≡ j % 64 = eqb-true (i % 64) (j % 64) d in sym (eq-eqb i j (omega (arith, same, e)))
    go false d = sym (ne_eqb i j (λ s. eqb-false (i % 64) (j % 64) d (ap (λ (x : ℕ). x % 64) s)))

pub bit-set : (f : List ℕ) (j i : ℕ) → j / 64 < length f → bit_at (bit_set f j) i ≡ eqb i j || bit_at f i
unfolding bit_at bit_set
bit-set f j i h = go (eqb (i / 64) (j / 64)) refl
  where
    go : (t : Bool) → eqb (i / 64) (j / 64) ≡ t
        → bit_of (get_or (set f (j / 64) (with_bit_lem (get_or f (j / 64) 0) (j % 64))) (i / 64) 0) (i % 64) ≡ eqb i j || bit_of (get_or f (i / 64) 0) (i % 64)
    go true d =
        let e : i / 64 ≡ j / 64 = eqb-true (i / 64) (j / 64) d in
        ap (λ (x : ℕ). bit_of (get_or (set f (j / 64) (with_bit_lem (get_or f (j / 64) 0) (j % 64))) x 0) (i % 64)) e
        ∙ ap (λ (x : ℕ). bit_of x (i % 64)) (get_or-set_same f (j / 64) (with_bit_lem (get_or f (j / 64) 0) (j % 64)) 0 h)
        ∙ bit-with (j % 64) (i % 64) (get_or f (j / 64) 0)
        ∙ ap (λ (t : Bool). t || bit_of (get_or f (j / 64) 0) (i % 64)) (same_word i j e)
        ∙ ap (λ (x : ℕ). eqb i j || bit_of (get_or f x 0) (i % 64)) (sym e)
    go false d =
        ap (λ (x : ℕ). bit_of x (i % 64)) (get_or-set_other f (j / 64) (i / 64) (with_bit_lem (get_or f (j / 64) 0) (j % 64)) 0 (eqb-false (i / 64) (j / 64) d))
        ∙ ap (λ (t : Bool). t || bit_of (get_or f (i / 64) 0) (i % 64)) (sym (ne_eqb i j (λ s. eqb-false (i / 64) (j / 64) d (ap (λ (x : ℕ). x / 64) s))))

pub none-set : (i : ℕ) → i < 2048 → bit_at no_bits i ≡ false
unfolding bit_at no_bits
none-set i h = ap (λ (x : ℕ). bit_of x (i % 64)) (get_or-replicate 32 (i / 64) 0 0 (omega arith)) ∙ no_bit (i % 64)
