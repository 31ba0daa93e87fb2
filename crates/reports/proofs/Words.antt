-- The filter's words stay below 2^64.
use mathlib.Core.Path.{◌≡◌, refl, ◌∙◌}
use mathlib.Core.Bool.{Bool, true, false}
use mathlib.Core.List.{List, [], ◌∷◌}
use Prim.Native.Nat.{ℕ, zero, suc, ◌/◌, ◌%◌, ◌^◌, ◌<◌}
use native.Mathlib.Nat.{pow-succ', not-suc-le-zero, le_of_suc-le-suc}
use native.Mathlib.Omega.{arith}
use lib.Dec.{eqb}
use lib.ListN.{length, get_or, set}
use lib.Seq.{get_or-set_same, get_or-set_other}
use borrow.Author.Tests.{eqb-true, eqb-false}
use Rattle.buffers.proofs.Lists.{zeros-item}
use Rattle.reports.specs.Bits.{with_bit_lem, bit_set, no_bits, hash_bit, marked}
use Rattle.reports.specs.Reports.{Report, marked_all, filter_of}
use Rattle.reports.proofs.Bits.{with_half, zero_half, length-bit_set}
use Rattle.reports.proofs.Marks.{hash_below, length_marked, length-no_bits}

doubled_below : (n v : ℕ) → v / 2 < 2 ^ n → v < 2 ^ suc n
doubled_below n v h = omega (arith, h, pow-succ' 2 n)

half-below : (n v : ℕ) → v < 2 ^ suc n → v / 2 < 2 ^ n
half-below n v h = omega (arith, h, pow-succ' 2 n)

pub with_below : (n i w : ℕ) → i < n → w < 2 ^ n → with_bit_lem w i < 2 ^ n
with_below zero i w h b = absurd (not-suc-le-zero h)
with_below (suc n) zero w h b = doubled_below n (with_bit_lem w 0) (rw (zero_half w) (half-below n w b))
with_below (suc n) (suc i) w h b =
    doubled_below n (with_bit_lem w (suc i)) (rw (with_half w i) (with_below n i (w / 2) (le_of_suc-le-suc h) (half-below n w b)))

abbrev pub Words : List ℕ → Type 0
Words f = (i : ℕ) → get_or f i 0 < 2 ^ 64

words-set : (f : List ℕ) (j : ℕ) → j / 64 < length f → Words f → Words (bit_set f j)
unfolding bit_set
words-set f j h w i = go (eqb i (j / 64)) refl
  where
    go : (t : Bool) → eqb i (j / 64) ≡ t → get_or (set f (j / 64) (with_bit_lem (get_or f (j / 64) 0) (j % 64))) i 0 < 2 ^ 64
    go true e =
        rw (eqb-true i (j / 64) e, get_or-set_same f (j / 64) (with_bit_lem (get_or f (j / 64) 0) (j % 64)) 0 h)
        (with_below 64 (j % 64) (get_or f (j / 64) 0) (omega arith) (w (j / 64)))
    go false e = rw (get_or-set_other f (j / 64) i (with_bit_lem (get_or f (j / 64) 0) (j % 64)) 0 (eqb-false i (j / 64) e)) (w i)

words-marked : (a : ℕ) (f : List ℕ) (k : ℕ) → length f ≡ 32 → Words f → Words (marked a f k)
unfolding marked
words-marked a f k size w =
    let one : length (bit_set f (hash_bit a 1 k)) ≡ 32 = length-bit_set f (hash_bit a 1 k) ∙ size in
    let two : length (bit_set (bit_set f (hash_bit a 1 k)) (hash_bit a 2 k)) ≡ 32 = length-bit_set (bit_set f (hash_bit a 1 k)) (hash_bit a 2 k) ∙ one in
    words-set (bit_set (bit_set f (hash_bit a 1 k)) (hash_bit a 2 k)) (hash_bit a 3 k) (omega (arith, two, hash_below a 3 k))
    (words-set (bit_set f (hash_bit a 1 k)) (hash_bit a 2 k) (omega (arith, one, hash_below a 2 k))
    (words-set f (hash_bit a 1 k) (omega (arith, size, hash_below a 1 k)) w))

words-all : (a : ℕ) (f : List ℕ) (xs : List Report) → length f ≡ 32 → Words f → Words (marked_all a f xs)
unfolding marked_all
words-all a f [] size w = w
words-all a f (x ∷ xs) size w = words-all a (marked a f x.number) xs (length_marked a f x.number ∙ size) (words-marked a f x.number size w)

words-none : Words no_bits
unfolding no_bits
words-none i = rw (zeros-item 32 i) (omega arith)

pub words-filter_of : (a : ℕ) (xs : List Report) → Words (filter_of a xs)
unfolding filter_of
words-filter_of a xs = words-all a no_bits xs length-no_bits words-none
