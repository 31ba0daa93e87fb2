-- Counting how many of a list each value of a function has, one counter a value; sums of counters. Assumes nothing.
use mathlib.Core.Path.{◌≡◌, refl, ap, sym, ◌∙◌}
use mathlib.Core.Bool.{Bool, true, false}
use mathlib.Core.List.{List, [], ◌∷◌}
use Prim.Native.Nat.{ℕ, zero, suc, ◌+◌, ◌-◌, ◌≤◌, ◌<◌}
use native.Mathlib.Nat.{add-zero, zero-add, le_of_suc-le-suc, not-suc-le-zero}
use native.Mathlib.Numerals.{add-one}
use native.Mathlib.Omega.{arith}
use lib.Dec.{eqb}
use lib.ListN.{length, get_or, set, length-set}
use lib.Seq.{get_or-set_same, get_or-set_other, slice, slice-cons, slice_empty, length-slice}
use borrow.Author.Tests.{eqb-true, eqb-false, eq-eqb, ne_eqb}
use Rattle.page_separator.specs.Lists.{selected, having, sum_to}
use Rattle.page_separator.proofs.Lists.{filter-length, filter-true, filter-false}

pub alike-here : (f : ℕ → ℕ) (v x : ℕ) (l : List ℕ) → f x ≡ v → having f v (x ∷ l) ≡ x ∷ having f v l
alike-here f v x l e = filter-true (λ y. eqb (f y) v) x l (eq-eqb (f x) v e)

pub alike-other : (f : ℕ → ℕ) (v x : ℕ) (l : List ℕ) → (f x ≡ v → ⊥) → having f v (x ∷ l) ≡ having f v l
alike-other f v x l e = filter-false (λ y. eqb (f y) v) x l (ne_eqb (f x) v e)

pub set_here : (l : List ℕ) (i j x : ℕ) → i ≡ j → j < length l → get_or (set l i x) j 0 ≡ x
set_here l i j x e h = rw e (get_or-set_same l j x 0 h)

pub set-elsewhere : (l : List ℕ) (i j x : ℕ) → (i ≡ j → ⊥) → get_or (set l i x) j 0 ≡ get_or l j 0
set-elsewhere l i j x e = get_or-set_other l i j x 0 (λ q. e (sym q))

-- counters that lack what is still to come, e being what they come to: the next item is counted
pub counted : (f e : ℕ → ℕ) (n : ℕ) (counts : List ℕ) (g x : ℕ) (l : List ℕ) → f x ≡ g → n ≤ length counts
    → ((v : ℕ) → v < n → get_or counts v 0 + length (having f v (x ∷ l)) ≡ e v)
    → (v : ℕ) → v < n → get_or (set counts g (get_or counts g 0 + 1)) v 0 + length (having f v l) ≡ e v
counted f e n counts g x l eg long H v h = go (eqb g v) refl
  where
    go : (t : Bool) → eqb g v ≡ t → get_or (set counts g (get_or counts g 0 + 1)) v 0 + length (having f v l) ≡ e v
    go true q =
        let same : g ≡ v = eqb-true g v q in
        let now : get_or (set counts g (get_or counts g 0 + 1)) v 0 ≡ get_or counts g 0 + 1 = set_here counts g v (get_or counts g 0 + 1) same (omega arith) in
        let old : get_or counts g 0 ≡ get_or counts v 0 = rw same in
        let more : length (having f v (x ∷ l)) ≡ suc (length (having f v l)) = ap length (alike-here f v x l (eg ∙ same)) in
        omega (arith, H v h)
    go false q =
        let other : g ≡ v → ⊥ = eqb-false g v q in
        let now : get_or (set counts g (get_or counts g 0 + 1)) v 0 ≡ get_or counts v 0 = set-elsewhere counts g v (get_or counts g 0 + 1) other in
        let more : length (having f v (x ∷ l)) ≡ length (having f v l) = ap length (alike-other f v x l (λ p. other (sym eg ∙ p))) in
        omega (arith, H v h)

pub sum-next : (n : ℕ) (l : List ℕ) → sum_to (suc n) l ≡ sum_to n l + get_or l n 0
unfolding sum_to
sum-next zero [] = omega arith
sum-next (suc n) [] = omega arith
sum-next zero (x ∷ l) = omega arith
sum-next (suc n) (x ∷ l) = let r : sum_to (suc n) l ≡ sum_to n l + get_or l n 0 = sum-next n l in omega arith

pub sum_mono : (m n : ℕ) (l : List ℕ) → m ≤ n → sum_to m l ≤ sum_to n l
unfolding sum_to
sum_mono zero n l h = omega arith
sum_mono (suc m) zero l h = absurd (not-suc-le-zero h)
sum_mono (suc m) (suc n) [] h = omega arith
sum_mono (suc m) (suc n) (x ∷ l) h = let r : sum_to m l ≤ sum_to n l = sum_mono m n l (le_of_suc-le-suc h) in omega arith

pub sum-none : (l : List ℕ) → sum_to 0 l ≡ 0
unfolding sum_to
sum-none l = refl

pub sum-last : (v : ℕ) (l : List ℕ) → 0 < v → sum_to v l ≡ sum_to (v - 1) l + get_or l (v - 1) 0
sum-last zero l h = absurd (not-suc-le-zero h)
sum-last (suc v) l h = let e : suc v - 1 ≡ v = omega arith in rw e (sum-next v l)

pub sum-some : (v n : ℕ) (l : List ℕ) → n < sum_to v l → 0 < v
sum-some zero n l h = omega (arith, sum-none l)
sum-some (suc v) n l h = omega arith

-- a list that is known below v, and is set at v
pub set_first : (l : List ℕ) (v x : ℕ) (e : ℕ → ℕ) → v < length l → ((u : ℕ) → u < v → get_or l u 0 ≡ e u) → x ≡ e v
    → (u : ℕ) → u < v + 1 → get_or (set l v x) u 0 ≡ e u
set_first l v x e long H ex u h = go (eqb v u) refl
  where
    go : (t : Bool) → eqb v u ≡ t → get_or (set l v x) u 0 ≡ e u
    go true q = let same : v ≡ u = eqb-true v u q in set_here l v u x same (omega arith) ∙ ex ∙ ap e same
    go false q = let other : v ≡ u → ⊥ = eqb-false v u q in set-elsewhere l v u x other ∙ H u (omega arith)

-- the counters of the values of f, with the items of l from `from` up to i counted; they lack those from i up to `reach`
pub record Lacking (f : ℕ → ℕ) (n : ℕ) (l : List ℕ) (from reach : ℕ) (counts : List ℕ) (i : ℕ) : Type 0 where
  pub least : from ≤ i
  pub upto : i ≤ reach
  pub inside : reach ≤ length l
  pub size : length counts ≡ n
  pub lacks : (v : ℕ) → v < n → get_or counts v 0 + length (having f v (slice i reach l)) ≡ length (having f v (slice from reach l))

pub lacking_none : (f : ℕ → ℕ) (n : ℕ) (l : List ℕ) (from reach : ℕ) (counts : List ℕ) → from ≤ reach → reach ≤ length l → length counts ≡ n
    → ((v : ℕ) → v < n → get_or counts v 0 ≡ 0) → Lacking f n l from reach counts from
lacking_none f n l from reach counts order inside size H =
    record { least = omega arith; upto = order; inside = inside; size = size; lacks = λ v h. rw (H v h, zero-add) }

module _ (f : ℕ → ℕ) (n : ℕ) (l : List ℕ) (from reach : ℕ) (counts : List ℕ) (i : ℕ) (L : Lacking f n l from reach counts i) where
  pub lacking_next : (g : ℕ) → i < reach → f (get_or l i 0) ≡ g → Lacking f n l from reach (set counts g (get_or counts g 0 + 1)) (i + 1)
  lacking_next g h e =
      record {
        least = omega (arith, L.least);
        upto = omega arith;
        inside = L.inside;
        size = length-set counts g (get_or counts g 0 + 1) ∙ L.size;
        lacks =
            rw (add-one i)
            (counted f (λ v. length (having f v (slice from reach l))) n counts g (get_or l i 0) (slice (suc i) reach l) e (omega (arith, L.size))
            (λ v k. rw (slice-cons i reach l 0 h L.inside) at (L.lacks v k)));
      }

  pub lacking_fits : (g : ℕ) → g < n → get_or counts g 0 ≤ reach
  lacking_fits g h =
      omega (arith, L.lacks g h, filter-length (λ x. eqb (f x) g) (slice from reach l), length-slice from reach l L.inside)

  pub lacking_all : i ≡ reach → (v : ℕ) → v < n → get_or counts v 0 ≡ length (having f v (slice from reach l))
  unfolding selected
  lacking_all e v h = sym (add-zero (get_or counts v 0)) ∙ rw (e, slice_empty reach l) at (L.lacks v h)
