-- Laws of `filter` and `all`. Assumes nothing.
use mathlib.Core.Path.{◌≡◌, refl, ap, ◌∙◌}
use mathlib.Core.Bool.{Bool, true, false, cond}
use mathlib.Core.List.{List, [], ◌∷◌, ◌++◌}
use Prim.Native.Nat.{ℕ, zero, suc, ◌+◌, ◌-◌, ◌≤◌, ◌<◌, zero-le}
use native.Mathlib.Nat.{not-suc-le-zero, le_of_suc-le-suc}
use native.Mathlib.Omega.{arith}
use lib.ListN.{length, get_or, take}
use lib.Seq.{slice, length-slice, get_or-drop, get_or-take}
use Rattle.page_separator.specs.Lists.{selected, all}
use Rattle.placement.proofs.Filters.{and-true}

module _ (q : ℕ → Bool) where
  pub filter-append : (a b : List ℕ) → selected q (a ++ b) ≡ selected q a ++ selected q b
  unfolding selected
  filter-append [] b = refl
  filter-append (x ∷ a) b = go (q x) (filter-append a b)
    where
      go : (t : Bool) → selected q (a ++ b) ≡ selected q a ++ selected q b →
          cond t (x ∷ selected q (a ++ b)) (selected q (a ++ b)) ≡ cond t (x ∷ selected q a) (selected q a) ++ selected q b
      go true e = rw e
      go false e = e

  pub filter-length : (l : List ℕ) → length (selected q l) ≤ length l
  unfolding selected
  filter-length [] = zero-le
  filter-length (x ∷ l) = go (q x) (filter-length l)
    where
      go : (t : Bool) → length (selected q l) ≤ length l → length (cond t (x ∷ selected q l) (selected q l)) ≤ suc (length l)
      go true h = omega arith
      go false h = omega arith

  pub filter-true : (x : ℕ) (l : List ℕ) → q x ≡ true → selected q (x ∷ l) ≡ x ∷ selected q l
  unfolding selected
  filter-true x l e = rw e

  pub filter-false : (x : ℕ) (l : List ℕ) → q x ≡ false → selected q (x ∷ l) ≡ selected q l
  unfolding selected
  filter-false x l e = rw e

  pub all_nil : all q [] ≡ true
  unfolding all
  all_nil = refl

  pub all_head : (x : ℕ) (l : List ℕ) → all q (x ∷ l) ≡ true → q x ≡ true
  unfolding all
  all_head x l e = (and-true (q x) (all q l) e).0

  pub all_tail : (x : ℕ) (l : List ℕ) → all q (x ∷ l) ≡ true → all q l ≡ true
  unfolding all
  all_tail x l e = (and-true (q x) (all q l) e).1

  pub all_cons : (x : ℕ) (l : List ℕ) → q x ≡ true → all q l ≡ true → all q (x ∷ l) ≡ true
  unfolding all
  all_cons x l e f = rw (e, f)

  pub all_append : (a b : List ℕ) → all q a ≡ true → all q b ≡ true → all q (a ++ b) ≡ true
  all_append [] b e f = f
  all_append (x ∷ a) b e f = all_cons x (a ++ b) (all_head x a e) (all_append a b (all_tail x a e) f)

  pub all_get_d : (l : List ℕ) (j : ℕ) → all q l ≡ true → j < length l → q (get_or l j 0) ≡ true
  all_get_d [] j e h = absurd (not-suc-le-zero h)
  all_get_d (x ∷ l) zero e h = all_head x l e
  all_get_d (x ∷ l) (suc j) e h = all_get_d l j (all_tail x l e) (le_of_suc-le-suc h)

  -- those that pass a test all pass it
  pub all-filtered : (l : List ℕ) → all q (selected q l) ≡ true
  unfolding selected all
  all-filtered [] = refl
  all-filtered (x ∷ l) = go (q x) refl (all-filtered l)
    where
      go : (t : Bool) → q x ≡ t → all q (selected q l) ≡ true → all q (cond t (x ∷ selected q l) (selected q l)) ≡ true
      go true e h = rw (e, h)
      go false e h = h

  -- a selection from those that all pass
  pub all_filter : (r : ℕ → Bool) (l : List ℕ) → all q l ≡ true → all q (selected r l) ≡ true
  unfolding selected
  all_filter r [] e = e
  all_filter r (x ∷ l) e = go (r x) (all_head x l e) (all_filter r l (all_tail x l e))
    where
      go : (t : Bool) → q x ≡ true → all q (selected r l) ≡ true → all q (cond t (x ∷ selected r l) (selected r l)) ≡ true
      go true f h = all_cons x (selected r l) f h
      go false f h = h

  pub filter-all : (l : List ℕ) → all q l ≡ true → selected q l ≡ l
  filter-all [] e = filter-nil
    where
      filter-nil : selected q [] ≡ []
      filter-nil = unfold selected in refl
  filter-all (x ∷ l) e = filter-true x l (all_head x l e) ∙ ap (λ (r : List ℕ). x ∷ r) (filter-all l (all_tail x l e))

-- a weaker test
pub all-mono : (q r : ℕ → Bool) (l : List ℕ) → ((x : ℕ) → q x ≡ true → r x ≡ true) → all q l ≡ true → all r l ≡ true
unfolding all
all-mono q r [] f e = refl
all-mono q r (x ∷ l) f e = all_cons r x l (f x (all_head q x l e)) (all-mono q r l f (all_tail q x l e))

-- a test that every item passes
pub all-items : (q : ℕ → Bool) (l : List ℕ) → ((i : ℕ) → i < length l → q (get_or l i 0) ≡ true) → all q l ≡ true
unfolding all
all-items q [] t = refl
all-items q (x ∷ l) t = all_cons q x l (t 0 (omega arith)) (all-items q l (λ i h. t (suc i) (omega arith)))

-- an item of a part of a list that passes a test
pub slice_all : (q : ℕ → Bool) (f t : ℕ) (l : List ℕ) (i : ℕ) → all q (slice f t l) ≡ true → t ≤ length l → f ≤ i → i < t → q (get_or l i 0) ≡ true
slice_all q f t l i e ht hf hi =
    let size : length (slice f t l) ≡ t - f = length-slice f t l ht in
    let back : f + (i - f) ≡ i = omega arith in
    let there : get_or (slice f t l) (i - f) 0 ≡ get_or l i 0
    = get_or-drop f (take t l) (i - f) 0 ∙ ap (λ (k : ℕ). get_or (take t l) k 0) back ∙ get_or-take t l i 0 hi in
    rw there at (all_get_d q (slice f t l) (i - f) e (omega arith))
