-- The tables of multipliers: one test over a whole table, lifted to the powers of any multiplier.
use mathlib.Core.Path.{◌≡◌, ◌∙◌, refl, sym, ap}
use mathlib.Core.Bool.{Bool, true, false, ◌&&◌, ◌||◌, false≢true}
use mathlib.Core.List.{List, [], ◌∷◌}
use Prim.Native.Nat.{ℕ, zero, suc, ◌+◌, ◌-◌, ◌*◌, ◌%◌, ◌^◌, ◌≤◌, ◌<◌}
use native.Mathlib.Nat.{pow-zero, pow-suc, pow-succ', one-mul, mul_assoc, not-suc-le-zero, le_of_suc-le-suc}
use native.Mathlib.Omega.{arith}
use lib.Dec.{T, eqb, eqb→eq}
use lib.ListN.{get_or, length}
use lib.Pow.{pow-add}
use borrow.Author.Tests.{eqb-true}
use Rattle.generator.specs.Generator.{modulus, scrambled, chain, valid_multiplier}
use Rattle.generator.specs.Shape.{power, first_multipliers_lem}
use Rattle.generator.proofs.Numbers.{mul_mod, mul_mod_right}

-- n entries, each being the one before times a mod m
abbrev pub chained : ℕ → ℕ → ℕ → List ℕ → Bool
chained a p zero [] = true
chained a p zero (x ∷ xs) = false
chained a p (suc n) [] = false
chained a p (suc n) (x ∷ xs) = eqb x (p * a % modulus) && chained a x n xs

both_left : (a b : Bool) → T (a && b) → T a
both_left true b t = tt
both_left false b t = t

both_right : (a b : Bool) → T (a && b) → T b
both_right true b t = t
both_right false b t = absurd t

pub chained-is : (a p n : ℕ) (xs : List ℕ) → T (chained a p n xs) → xs ≡ chain a p n
unfolding chain
chained-is a p zero [] t = refl
chained-is a p zero (x ∷ xs) t = absurd t
chained-is a p (suc n) [] t = absurd t
chained-is a p (suc n) (x ∷ xs) t = go (eqb→eq x (p * a % modulus) (both_left (eqb x (p * a % modulus)) (chained a x n xs) t)) (chained-is a x n xs (both_right (eqb x (p * a % modulus)) (chained a x n xs) t))
  where
    go : x ≡ p * a % modulus → xs ≡ chain a x n → x ∷ xs ≡ p * a % modulus ∷ chain a (p * a % modulus) n
    go e f = rw (f, e)

-- a list that passes the test for a is the chain of every multiplier that equals a: at a constant, `is-chain a n _ tt _ e`
pub is-chain : (a n : ℕ) (xs : List ℕ) → T (chained a 1 n xs) → (b : ℕ) → b ≡ a → xs ≡ chain b 1 n
is-chain a n xs t b e = rw e (chained-is a 1 n xs t)

-- a valid multiplier that is not the one is the other
pub the_other : (a : ℕ) → valid_multiplier a ≡ true → (a ≡ 48271 → ⊥) → a ≡ 16807
unfolding valid_multiplier
the_other a v f = go (eqb a 16807) (eqb a 48271) refl refl v
  where
    go : (s t : Bool) → eqb a 16807 ≡ s → eqb a 48271 ≡ t → s || t ≡ true → a ≡ 16807
    go true t e e' v = eqb-true a 16807 e
    go false true e e' v = absurd (f (eqb-true a 48271 e'))
    go false false e e' v = absurd (false≢true v)

pub chain-at : (a p n j : ℕ) → j < n → get_or (chain a p n) j 0 ≡ p * a ^ suc j % modulus
unfolding chain
chain-at a p zero j h = absurd (not-suc-le-zero h)
chain-at a p (suc n) zero h = rw (pow-suc a zero, pow-zero, one-mul)
chain-at a p (suc n) (suc j) h =
    chain-at a (p * a % modulus) n j (le_of_suc-le-suc h)
    ∙ mul_mod (p * a) modulus (a ^ suc j)
    ∙ rw (mul_assoc p a (a ^ suc j), ← pow-succ' a (suc j))

-- entry j of a chain from 1, counted from 1, is a^j mod m
pub entry : (a n j : ℕ) → 1 ≤ j → j ≤ n → get_or (chain a 1 n) (j - 1) 0 ≡ power a j
unfolding power
entry a n zero h l = omega arith
entry a n (suc j) h l = rw (sub-suc j) (chain-at a 1 n j l ∙ rw one-mul)
  where
    sub-suc : (j : ℕ) → suc j - 1 ≡ j
    sub-suc j = omega arith

-- the same counted from 0
pub entry_at : (a n i : ℕ) → i < n → get_or (chain a 1 n) i 0 ≡ power a (i + 1)
entry_at a n i h = let e : i ≡ i + 1 - 1 = omega arith in ap (λ (j : ℕ). get_or (chain a 1 n) j 0) e ∙ entry a n (i + 1) (omega arith) (omega arith)

pub power_below : (a j : ℕ) → power a j < modulus
unfolding power
power_below a j = omega arith

pub entry-below : (a n i : ℕ) → i < n → get_or (chain a 1 n) i 0 < modulus
entry-below a n i h = rw (entry_at a n i h) (power_below a (i + 1))

-- a product by an entry is Xj
pub times_entry : (a n i k : ℕ) → i < n → get_or (chain a 1 n) i 0 * k % modulus ≡ scrambled a (i + 1) k
unfolding scrambled power
times_entry a n i k h = rw (entry_at a n i h) (mul_mod (a ^ (i + 1)) modulus k)

pub length-chain : (a p n : ℕ) → length (chain a p n) ≡ n
unfolding chain
length-chain a p zero = refl
length-chain a p (suc n) = ap suc (length-chain a (p * a % modulus) n)

-- a lent table is as long as it is: the first ninety, or all
pub lent-chain : (a n : ℕ) (t : List ℕ) → t ≡ chain a 1 n → t ≡ chain a 1 (length t)
lent-chain a n t e = e ∙ ap (chain a 1) (sym (ap length e ∙ length-chain a 1 n))

module _ (a : ℕ) (t : List ℕ) (e : t ≡ chain a 1 (length t)) (i : ℕ) (h : i < length t) where
  pub lent-entry : get_or t i 0 ≡ power a (i + 1)
  lent-entry = ap (λ (l : List ℕ). get_or l i 0) e ∙ entry_at a (length t) i h

  pub lent_below : get_or t i 0 < modulus
  lent_below = rw lent-entry (power_below a (i + 1))

-- the first ninety: each is below the modulus, X1, and the multiplier of step i + 1

pub first_below : (a i : ℕ) → i < 90 → get_or (first_multipliers_lem a) i 0 < modulus
unfolding first_multipliers_lem
first_below a i h = entry-below a 90 i h

pub times_first : (a i k : ℕ) → i < 90 → get_or (first_multipliers_lem a) i 0 * k % modulus ≡ scrambled a (i + 1) k
unfolding first_multipliers_lem
times_first a i k h = times_entry a 90 i k h

pub times_step : (a i k : ℕ) → i ≤ 32 → get_or (first_multipliers_lem a) (2 * i + 1) 0 * k % modulus ≡ scrambled a (2 * suc i) k
times_step a i k h =
    let e : 2 * i + 1 + 1 ≡ 2 * suc i = omega arith in
    times_first a (2 * i + 1) k (omega arith) ∙ ap (λ (j : ℕ). scrambled a j k) e

-- Xi of Xj is X(i+j)
pub scrambled-twice : (a i j k : ℕ) → scrambled a i (scrambled a j k) ≡ scrambled a (i + j) k
unfolding scrambled
scrambled-twice a i j k = mul_mod_right (a ^ i) modulus (a ^ j * k) ∙ rw (← mul_assoc (a ^ i) (a ^ j) k, ← pow-add a i j)
