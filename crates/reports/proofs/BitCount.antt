-- The number shown on the screen is the number of bits set.
use mathlib.Core.Path.{◌≡◌, refl, sym, ap, ◌∙◌}
use mathlib.Core.Bool.{Bool, true, false, cond}
use mathlib.Core.List.{List, [], ◌∷◌}
use Prim.Native.Nat.{ℕ, zero, suc, ◌+◌, ◌*◌, ◌/◌, ◌%◌, ◌<◌}
use native.Mathlib.Nat.{zero-add, suc-add, add-suc, add-zero, add_assoc, suc-mul, zero-mul}
use native.Mathlib.Omega.{arith}
use lib.Dec.{eqb}
use lib.ListN.{length, get_or}
use borrow.Author.Tests.{eq-eqb, eqb-true, eqb-false}
use Rattle.reports.specs.Bits.{bit_of, bit_at, ones, bits_set, how_many, BitCount, bits_of}
use Rattle.reports.proofs.Bits.{bit-zero, bit-suc}

-- tests that agree, the second from another number on
pub how_many_alike : (s t : ℕ → Bool) (i j n : ℕ) → ((m : ℕ) → m < n → s (i + m) ≡ t (j + m)) → how_many s i n ≡ how_many t j n
unfolding how_many
how_many_alike s t i j zero h = refl
how_many_alike s t i j (suc n) h =
    ap (λ (b : Bool). cond b 1 0 + how_many s (suc i) n) (ap s (sym (add-zero i)) ∙ h 0 (omega arith) ∙ ap t (add-zero j))
    ∙ ap (λ (m : ℕ). cond (t j) 1 0 + m)
    (how_many_alike s t (suc i) (suc j) n (λ m l. ap s (suc-add i m ∙ sym (add-suc i m)) ∙ h (suc m) (omega (arith, l)) ∙ ap t (add-suc j m ∙ sym (suc-add j m))))

pub how_many_add : (s : ℕ → Bool) (i n m : ℕ) → how_many s i (n + m) ≡ how_many s i n + how_many s (i + n) m
unfolding how_many
how_many_add s i zero m = rw (zero-add m, add-zero i, zero-add (how_many s i m))
how_many_add s i (suc n) m =
    ap (λ (k : ℕ). how_many s i k) (suc-add n m)
    ∙ ap (λ (k : ℕ). cond (s i) 1 0 + k) (how_many_add s (suc i) n m ∙ ap (λ (k : ℕ). how_many s (suc i) n + how_many s k m) (suc-add i n ∙ sym (add-suc i n)))
    ∙ sym (add_assoc (cond (s i) 1 0) (how_many s (suc i) n) (how_many s (i + suc n) m))

low_bit : (w : ℕ) → w % 2 ≡ cond (bit_of w 0) 1 0
low_bit w = go (eqb (w % 2) 1) refl ∙ ap (λ (t : Bool). cond t 1 0) (sym (bit-zero w))
  where
    go : (t : Bool) → eqb (w % 2) 1 ≡ t → w % 2 ≡ cond t 1 0
    go true e = eqb-true (w % 2) 1 e
    go false e = omega (arith, eqb-false (w % 2) 1 e)

pub ones-are : (w n : ℕ) → ones w n ≡ how_many (bit_of w) 0 n
unfolding ones how_many
ones-are w zero = refl
ones-are w (suc n) =
    ap (λ (k : ℕ). k + ones (w / 2) n) (low_bit w)
    ∙ ap (λ (k : ℕ). cond (bit_of w 0) 1 0 + k)
    (ones-are (w / 2) n
    ∙ how_many_alike (bit_of (w / 2)) (bit_of w) 0 1 n (λ m l. sym (bit-suc w (0 + m)) ∙ ap (bit_of w) (omega arith)))

first_word : (w : ℕ) (ws : List ℕ) (m : ℕ) → m < 64 → bit_at (w ∷ ws) m ≡ bit_of w m
unfolding bit_at
first_word w ws m l =
    let q : m / 64 ≡ 0 = omega (arith, l) in
    let r : m % 64 ≡ m = omega (arith, l) in
    ap (λ (k : ℕ). bit_of (get_or (w ∷ ws) k 0) (m % 64)) q ∙ ap (λ (k : ℕ). bit_of w k) r

next-words : (w : ℕ) (ws : List ℕ) (m : ℕ) → bit_at (w ∷ ws) (64 + m) ≡ bit_at ws m
unfolding bit_at
next-words w ws m =
    let q : (64 + m) / 64 ≡ suc (m / 64) = omega arith in
    let r : (64 + m) % 64 ≡ m % 64 = omega arith in
    ap (λ (k : ℕ). bit_of (get_or (w ∷ ws) k 0) ((64 + m) % 64)) q ∙ ap (λ (k : ℕ). bit_of (get_or ws (m / 64) 0) k) r

none-counted : (s : ℕ → Bool) (i : ℕ) → how_many s i 0 ≡ 0
unfolding how_many
none-counted s i = refl

pub bits_are : (f : List ℕ) → bits_set f ≡ how_many (bit_at f) 0 (length f * 64)
unfolding bits_set
bits_are [] = sym (ap (λ (k : ℕ). how_many (bit_at []) 0 k) (zero-mul 64) ∙ none-counted (bit_at []) 0)
bits_are (w ∷ ws) =
    let size : suc (length ws) * 64 ≡ 64 + length ws * 64 = omega (arith, suc-mul (length ws) 64) in
    ap (λ (k : ℕ). k + bits_set ws) (ones-are w 64 ∙ how_many_alike (bit_of w) (bit_at (w ∷ ws)) 0 0 64 (λ m l. ap (bit_of w) (zero-add m) ∙ sym (first_word w ws m l) ∙ ap (bit_at (w ∷ ws)) (sym (zero-add m))))
    ∙ ap (λ (k : ℕ). how_many (bit_at (w ∷ ws)) 0 64 + k)
    (bits_are ws ∙ how_many_alike (bit_at ws) (bit_at (w ∷ ws)) 0 64 (length ws * 64) (λ m l. ap (bit_at ws) (zero-add m) ∙ sym (next-words w ws m)))
    ∙ sym (how_many_add (bit_at (w ∷ ws)) 0 64 (length ws * 64))
    ∙ ap (λ (k : ℕ). how_many (bit_at (w ∷ ws)) 0 k) (sym size)

-- what is shown of a filter of 32 words
pub shown-is : (f : List ℕ) (t : ℕ → Bool) → length f ≡ 32 → ((i : ℕ) → i < 2048 → bit_at f i ≡ t i) → bits_of f ≡ record { refusal = 0; bits = how_many t 0 2048 }
unfolding bits_of
shown-is f t size same =
    ap (λ (y : Bool). cond {A = BitCount} y (record { refusal = 0; bits = bits_set f }) (record { refusal = 2; bits = 0 })) (eq-eqb (length f) 32 size)
    ∙ ap {B = BitCount} (λ (n : ℕ). record { refusal = 0; bits = n }) count
  where
    count : bits_set f ≡ how_many t 0 2048
    count =
        bits_are f
        ∙ ap (λ (n : ℕ). how_many (bit_at f) 0 (n * 64)) size
        ∙ how_many_alike (bit_at f) t 0 0 2048 (λ m l. ap (bit_at f) (zero-add m) ∙ same m l ∙ ap t (sym (zero-add m)))
