-- Lists of zeros: what is 0 by bitwise or is 0 in each item.
use mathlib.Core.Path.{◌≡◌, refl, sym, ap, ap₂, ◌∙◌, subst}
use mathlib.Core.List.{List, [], ◌∷◌}
use Prim.Native.Nat.{ℕ, zero, suc, ◌+◌, ◌≤◌, ◌<◌}
use native.Mathlib.Nat.{not-suc-le-zero}
use native.Mathlib.Decide.{dec_lt}
use native.Mathlib.Omega.{arith}
use lib.Bits.{bit_or, or_add_and, and_le_l, and_le_r}
use lib.ListN.{length, get_or, replicate}

pub or_none : (a b : ℕ) → bit_or a b ≡ 0 → (a ≡ 0) × (b ≡ 0)
or_none a b e = (omega (arith, or_add_and a b, and_le_r a b, e), omega (arith, or_add_and a b, and_le_l a b, e))

-- the first i items are v
pub AllOf : {A : Type 0} → A → List A → ℕ → Type 0
AllOf v l i = (j : ℕ) → j < i → get_or l j v ≡ v

pub all_of-none : {A : Type 0} (v : A) (l : List A) → AllOf v l 0
unfolding AllOf
all_of-none v l j h = absurd (not-suc-le-zero h)

-- x is the item read at i
pub all_of-next : {A : Type 0} (v x : A) (l : List A) (i : ℕ) → AllOf v l i → x ≡ get_or l i x → x ≡ v → AllOf v l (i + 1)
unfolding AllOf
all_of-next {A} v x l i h is e j k = go (dec_lt j i)
  where
    here : get_or l i v ≡ v
    here = let P : A → Type 0 = λ y. y ≡ get_or l i y in sym (subst P e is)

    go : Dec (j < i) → get_or l j v ≡ v
    go (yes p) = h j p
    go (no p) = ap (λ (n : ℕ). get_or l n v) (omega (arith, p)) ∙ here

pub all_of-all : {A : Type 0} (v : A) (l : List A) (i : ℕ) → length l ≤ i → AllOf v l i → l ≡ replicate (length l) v
unfolding AllOf
all_of-all v [] i h z = refl
all_of-all v (x ∷ l) zero h z = absurd (not-suc-le-zero h)
all_of-all {A} v (x ∷ l) (suc i) h z = ap₂ (λ (n : A) (m : List A). n ∷ m) (z 0 (omega arith)) (all_of-all v l i (omega arith) (λ j k. z (suc j) (omega arith)))
