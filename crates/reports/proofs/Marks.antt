-- The bits of the stars that reports name.
use mathlib.Core.Path.{◌≡◌, refl, sym, ap, ◌∙◌}
use mathlib.Core.Bool.{Bool, true, false, cond, ◌||◌, true≢false}
use mathlib.Core.List.{List, [], ◌∷◌, ◌++◌}
use Prim.Native.Nat.{ℕ, ◌+◌, ◌<◌}
use native.Mathlib.Omega.{arith}
use lib.Dec.{eqb}
use lib.ListN.{length, length-replicate}
use borrow.Author.Tests.{eq-eqb, eqb-true}
use Rattle.buffers.proofs.Tests.{either-false}
use Rattle.calls.specs.declared.answers.Answer.{Answer}
use Rattle.reports.specs.Bits.{bit_at, bit_set, no_bits, hash_bit, is_bit_of, marked, passes}
use Rattle.reports.specs.Reports.{Report, marked_all, filter_of, is_bit_of_any, names_star, reported, latest_or}
use Rattle.reports.proofs.Bits.{length-bit_set, bit-set, none-set}

pub hash_below : (a j k : ℕ) → hash_bit a j k < 2048
unfolding hash_bit
hash_below a j k = omega arith

pub length_marked : (a : ℕ) (f : List ℕ) (k : ℕ) → length (marked a f k) ≡ length f
unfolding marked
length_marked a f k =
    length-bit_set (bit_set (bit_set f (hash_bit a 1 k)) (hash_bit a 2 k)) (hash_bit a 3 k)
    ∙ length-bit_set (bit_set f (hash_bit a 1 k)) (hash_bit a 2 k)
    ∙ length-bit_set f (hash_bit a 1 k)

three : (x y z b : Bool) → z || (y || (x || b)) ≡ (x || (y || z)) || b
three true true true b = refl
three true true false b = refl
three true false true b = refl
three true false false b = refl
three false true true b = refl
three false true false b = refl
three false false true b = refl
three false false false b = refl

pub bit-marked : (a : ℕ) (f : List ℕ) (k i : ℕ) → length f ≡ 32 → bit_at (marked a f k) i ≡ is_bit_of a k i || bit_at f i
unfolding marked is_bit_of
bit-marked a f k i size =
    let one : length (bit_set f (hash_bit a 1 k)) ≡ 32 = length-bit_set f (hash_bit a 1 k) ∙ size in
    let two : length (bit_set (bit_set f (hash_bit a 1 k)) (hash_bit a 2 k)) ≡ 32 = length-bit_set (bit_set f (hash_bit a 1 k)) (hash_bit a 2 k) ∙ one in
    bit-set (bit_set (bit_set f (hash_bit a 1 k)) (hash_bit a 2 k)) (hash_bit a 3 k) i (omega (arith, two, hash_below a 3 k))
    ∙ ap (λ (t : Bool). eqb i (hash_bit a 3 k) || t)
    (bit-set (bit_set f (hash_bit a 1 k)) (hash_bit a 2 k) i (omega (arith, one, hash_below a 2 k))
    ∙ ap (λ (t : Bool). eqb i (hash_bit a 2 k) || t) (bit-set f (hash_bit a 1 k) i (omega (arith, size, hash_below a 1 k))))
    ∙ three (eqb i (hash_bit a 1 k)) (eqb i (hash_bit a 2 k)) (eqb i (hash_bit a 3 k)) (bit_at f i)

pub length-marked_all : (a : ℕ) (f : List ℕ) (xs : List Report) → length (marked_all a f xs) ≡ length f
unfolding marked_all
length-marked_all a f [] = refl
length-marked_all a f (x ∷ xs) = length-marked_all a (marked a f x.number) xs ∙ length_marked a f x.number

swapped : (s t b : Bool) → s || (t || b) ≡ (t || s) || b
swapped true true b = refl
swapped true false b = refl
swapped false true b = refl
swapped false false b = refl

pub bit-marked_all : (a : ℕ) (f : List ℕ) (xs : List Report) (i : ℕ) → length f ≡ 32 → bit_at (marked_all a f xs) i ≡ is_bit_of_any a xs i || bit_at f i
unfolding marked_all is_bit_of_any
bit-marked_all a f [] i size = refl
bit-marked_all a f (x ∷ xs) i size =
    bit-marked_all a (marked a f x.number) xs i (length_marked a f x.number ∙ size)
    ∙ ap (λ (t : Bool). is_bit_of_any a xs i || t) (bit-marked a f x.number i size)
    ∙ swapped (is_bit_of_any a xs i) (is_bit_of a x.number i) (bit_at f i)

-- one report more
pub marked-last : (a : ℕ) (f : List ℕ) (xs : List Report) (x : Report) → marked_all a f (xs ++ (x ∷ [])) ≡ marked a (marked_all a f xs) x.number
unfolding marked_all
marked-last a f [] x = refl
marked-last a f (y ∷ xs) x = marked-last a (marked a f y.number) xs x

or-false : (t : Bool) → t || false ≡ t
or-false true = refl
or-false false = refl

or-true : (t : Bool) → t || true ≡ true
or-true true = refl
or-true false = refl

-- the bits of a filter made anew

pub length-no_bits : length no_bits ≡ 32
unfolding no_bits
length-no_bits = length-replicate {A = ℕ} 32 0

pub length-filter_of : (a : ℕ) (xs : List Report) → length (filter_of a xs) ≡ 32
unfolding filter_of
length-filter_of a xs = length-marked_all a no_bits xs ∙ length-no_bits

pub exact-bits : (a : ℕ) (xs : List Report) (i : ℕ) → i < 2048 → bit_at (filter_of a xs) i ≡ is_bit_of_any a xs i
unfolding filter_of
exact-bits a xs i h =
    bit-marked_all a no_bits xs i length-no_bits ∙ ap (λ (t : Bool). is_bit_of_any a xs i || t) (none-set i h) ∙ or-false (is_bit_of_any a xs i)

-- a star that a report names has its three bits
named-bit : (a k : ℕ) (xs : List Report) (i : ℕ) → is_bit_of a k i ≡ true → names_star k xs ≡ true → is_bit_of_any a xs i ≡ true
unfolding names_star is_bit_of_any
named-bit a k [] i b n = absurd (true≢false (sym n))
named-bit a k (x ∷ xs) i b n = go (eqb x.number k) refl n (named-bit a k xs i b)
  where
    go : (t : Bool) → eqb x.number k ≡ t → t || names_star k xs ≡ true → (names_star k xs ≡ true → is_bit_of_any a xs i ≡ true)
        → is_bit_of a x.number i || is_bit_of_any a xs i ≡ true
    go true e m rest = ap (λ (t : Bool). t || is_bit_of_any a xs i) (ap (λ (j : ℕ). is_bit_of a j i) (eqb-true x.number k e) ∙ b)
    go false e m rest = ap (λ (t : Bool). is_bit_of a x.number i || t) (rest m) ∙ or-true (is_bit_of a x.number i)

own-1 : (a k : ℕ) → is_bit_of a k (hash_bit a 1 k) ≡ true
unfolding is_bit_of
own-1 a k = rw (eq-eqb (hash_bit a 1 k) (hash_bit a 1 k) refl)

own-2 : (a k : ℕ) → is_bit_of a k (hash_bit a 2 k) ≡ true
unfolding is_bit_of
own-2 a k = rw (eq-eqb (hash_bit a 2 k) (hash_bit a 2 k) refl) (or-true (eqb (hash_bit a 2 k) (hash_bit a 1 k)))

own-3 : (a k : ℕ) → is_bit_of a k (hash_bit a 3 k) ≡ true
unfolding is_bit_of
own-3 a k =
    ap (λ (t : Bool). eqb (hash_bit a 3 k) (hash_bit a 1 k) || (eqb (hash_bit a 3 k) (hash_bit a 2 k) || t)) (eq-eqb (hash_bit a 3 k) (hash_bit a 3 k) refl)
    ∙ ap (λ (t : Bool). eqb (hash_bit a 3 k) (hash_bit a 1 k) || t) (or-true (eqb (hash_bit a 3 k) (hash_bit a 2 k)))
    ∙ or-true (eqb (hash_bit a 3 k) (hash_bit a 1 k))

pub named-passes : (a k : ℕ) (xs : List Report) → names_star k xs ≡ true → passes a (filter_of a xs) k ≡ true
unfolding passes
named-passes a k xs n =
    rw (
      exact-bits a xs (hash_bit a 1 k) (hash_below a 1 k),
      exact-bits a xs (hash_bit a 2 k) (hash_below a 2 k),
      exact-bits a xs (hash_bit a 3 k) (hash_below a 3 k),
      named-bit a k xs (hash_bit a 1 k) (own-1 a k) n,
      named-bit a k xs (hash_bit a 2 k) (own-2 a k) n,
      named-bit a k xs (hash_bit a 3 k) (own-3 a k) n,
    )

-- "so the filter's "no" means that no report names the star"
pub unnamed : (a k : ℕ) (xs : List Report) → passes a (filter_of a xs) k ≡ false → names_star k xs ≡ false
unnamed a k xs says = go (names_star k xs) refl
  where
    go : (t : Bool) → names_star k xs ≡ t → t ≡ false
    go true e = absurd (true≢false (sym (named-passes a k xs e) ∙ says))
    go false e = refl

-- no report on the star: the file answers
pub not_reported : (M k : ℕ) (xs : List Report) (plain : Answer) → names_star k xs ≡ false → latest_or M k xs plain ≡ plain
unfolding names_star latest_or
not_reported M k [] plain n = refl
not_reported M k (x ∷ xs) plain n =
    ap (λ (t : Bool). latest_or M k xs (cond t (reported M x) plain)) (either-false (eqb x.number k) (names_star k xs) n).0
    ∙ not_reported M k xs plain (either-false (eqb x.number k) (names_star k xs) n).1
