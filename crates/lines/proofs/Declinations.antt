-- A declination field from the number that it holds, and its sign.
use Prim.Native.Nat.{ℕ, zero, suc, ◌<◌, ◌≤◌}
use native.Mathlib.Omega.{arith}
use mathlib.Core.Bool.{Bool, true, false, cond, ◌&&◌}
use mathlib.Core.List.{List, [], ◌∷◌}
use mathlib.Core.Path.{◌≡◌, refl}
use borrow.Author.Tests.{ne_eqb, lt-leb, leb-false}
use lib.Dec.{leb, ltb}
use lib.IntN.{pos, neg_ℤ, ◌-ℤ◌, +ℤ_idl}
use lib.ListN.{length, drop, get_or}
use mir.Syntax.{w32, w64}
use mir.Val.{SFits, to_z, of_z}
use mir.ValLaws.{to_z_pos, to_z-of_z}
use Rattle.lines.specs.Grammar.{is_decimal, value, is_up_to, natural_of, declination_of}
use Rattle.lines.specs.declared.Natural.TheVariants.{Of, Wrong}
use Rattle.lines.specs.declared.Declination.TheVariants.{At, Nowhere}

-- a field that is no number of 32 bits is none below a smaller limit
wrong_up : (most : ℕ) (f : List ℕ) → most ≤ 4294967295 → natural_of f ≡ Wrong → is_up_to most f ≡ false
unfolding natural_of is_up_to
wrong_up most f h e = go (is_decimal f) (leb (value f) 4294967295) refl e
  where
    go :
        (t u : Bool) → leb (value f) 4294967295 ≡ u → cond (t && u) (Of (value f)) Wrong ≡ Wrong →
        t && leb (value f) most ≡ false
    go false u p q = refl
    go true false p q = lt-leb (value f) most (omega (arith, leb-false (value f) 4294967295 p))
    go true true p q = let z : ◌≡◌ {A = ℕ} 0 1 = cc in absurd (omega arith)

of_up : (most : ℕ) (f : List ℕ) (v : ℕ) → natural_of f ≡ Of v → (is_up_to most f ≡ leb v most) × (value f ≡ v)
unfolding natural_of is_up_to
of_up most f v e = go (is_decimal f) (leb (value f) 4294967295) e
  where
    go :
        (t u : Bool) → cond (t && u) (Of (value f)) Wrong ≡ Of v →
        (t && leb (value f) most ≡ leb v most) × (value f ≡ v)
    go true true q = let same : value f ≡ v = cc in (rw same, same)
    go true false q = let z : ◌≡◌ {A = ℕ} 0 1 = cc in absurd (omega arith)
    go false u q = let z : ◌≡◌ {A = ℕ} 0 1 = cc in absurd (omega arith)

pub empty-nowhere : (l : List ℕ) → length l ≡ 0 → declination_of l ≡ Nowhere
unfolding declination_of
empty-nowhere [] e = refl
empty-nowhere (c ∷ l) e = absurd (omega arith)

module _ (l : List ℕ) (h : 0 < length l) (sign : get_or l 0 0 ≡ 45) where
  pub minus-wrong : natural_of (drop 1 l) ≡ Wrong → declination_of l ≡ Nowhere
  unfolding declination_of
  minus-wrong = go l h sign
    where
      go : (k : List ℕ) → 0 < length k → get_or k 0 0 ≡ 45 → natural_of (drop 1 k) ≡ Wrong → declination_of k ≡ Nowhere
      go [] p q e = refl
      go (c ∷ f) p q e = rw (q, wrong_up 2147483648 f (omega arith) e)

  pub minus_is :
      (v : ℕ) → natural_of (drop 1 l) ≡ Of v → declination_of l ≡ cond (leb v 2147483648 && ltb 0 v) (At (neg_ℤ (pos v))) Nowhere
  unfolding declination_of
  minus_is v = go l h sign
    where
      go :
          (k : List ℕ) → 0 < length k → get_or k 0 0 ≡ 45 → natural_of (drop 1 k) ≡ Of v →
          declination_of k ≡ cond (leb v 2147483648 && ltb 0 v) (At (neg_ℤ (pos v))) Nowhere
      go [] p q e = absurd (omega arith)
      go (c ∷ f) p q e = rw (q, (of_up 2147483648 f v e).0, (of_up 2147483648 f v e).1)

module _ (l : List ℕ) (h : 0 < length l) (sign : get_or l 0 0 ≡ 45 → ⊥) where
  pub plus_wrong : natural_of l ≡ Wrong → declination_of l ≡ Nowhere
  unfolding declination_of
  plus_wrong = go l h sign
    where
      go : (k : List ℕ) → 0 < length k → (get_or k 0 0 ≡ 45 → ⊥) → natural_of k ≡ Wrong → declination_of k ≡ Nowhere
      go [] p q e = refl
      go (c ∷ f) p q e = rw (ne_eqb c 45 q, wrong_up 2147483647 (c ∷ f) (omega arith) e)

  pub plus_is : (v : ℕ) → natural_of l ≡ Of v → declination_of l ≡ cond (leb v 2147483647) (At (pos v)) Nowhere
  unfolding declination_of
  plus_is v = go l h sign
    where
      go :
          (k : List ℕ) → 0 < length k → (get_or k 0 0 ≡ 45 → ⊥) → natural_of k ≡ Of v →
          declination_of k ≡ cond (leb v 2147483647) (At (pos v)) Nowhere
      go [] p q e = absurd (omega arith)
      go (c ∷ f) p q e = rw (ne_eqb c 45 q, (of_up 2147483647 (c ∷ f) v e).0, (of_up 2147483647 (c ∷ f) v e).1)

-- minus a number, as the code computes it in 64 bits and hands it on in 32
fits-minus : (v : ℕ) → v ≤ 2147483648 → SFits w32 (neg_ℤ (pos v))
fits-minus zero h = record { sfits = omega arith }
fits-minus (suc v) h = record { sfits = omega arith }

widens-minus : (v : ℕ) → v ≤ 2147483648 → SFits w64 (neg_ℤ (pos v))
widens-minus zero h = record { sfits = omega arith }
widens-minus (suc v) h = record { sfits = omega arith }

pub minus-wide : (v : ℕ) → v ≤ 2147483648 → pos 0 -ℤ to_z w64 v ≡ neg_ℤ (pos v)
minus-wide v h = rw (to_z_pos w64 v (omega arith)) (+ℤ_idl (neg_ℤ (pos v)))

pub minus-fits : (v : ℕ) → v ≤ 2147483648 → SFits w64 (pos 0 -ℤ to_z w64 v)
minus-fits v h = rw (minus-wide v h) (widens-minus v h)

pub minus-back : (v : ℕ) → v ≤ 2147483648 → to_z w64 (of_z w64 (pos 0 -ℤ to_z w64 v)) ≡ neg_ℤ (pos v)
minus-back v h = rw (minus-wide v h) (to_z-of_z w64 (neg_ℤ (pos v)) (widens-minus v h))

pub minus-narrow : (v : ℕ) → v ≤ 2147483648 → SFits w32 (to_z w64 (of_z w64 (pos 0 -ℤ to_z w64 v)))
minus-narrow v h = rw (minus-back v h) (fits-minus v h)

pub minus-read : (v : ℕ) → v ≤ 2147483648 → to_z w32 (of_z w32 (to_z w64 (of_z w64 (pos 0 -ℤ to_z w64 v)))) ≡ neg_ℤ (pos v)
minus-read v h = rw (minus-back v h) (to_z-of_z w32 (neg_ℤ (pos v)) (fits-minus v h))
