-- Laws of `filter`.
use mathlib.Core.Path.{◌≡◌, refl, sym, ap, ◌∙◌}
use mathlib.Core.Bool.{Bool, true, false, not, ◌&&◌, and_comm, true≢false}
use mathlib.Core.List.Memᴰ
use mathlib.Core.List.{List, [], ◌∷◌, ◌++◌, Memᴰ}
use mathlib.Core.Logic.{⊎_elim, ◌⊎◌, inl, inr}
use Prim.Native.Nat.{ℕ, suc, ◌+◌, ◌≤◌, zero-le}
use native.Mathlib.Omega.{arith}
use lib.ListN.{length}
pub use Rattle.buffers.proofs.Tests.{and-true}
use Rattle.placement.specs.Rule.{keep, filter}

-- Wherever q holds, r does.
abbrev pub Within : {A : Type 0} → (A → Bool) → (A → Bool) → Type 0
Within {A} q r = (x : A) → q x ≡ true → r x ≡ true

module _ {A : Type 0} where
  pub filter-ext : (q r : A → Bool) → ((x : A) → q x ≡ r x) → (l : List A) → filter q l ≡ filter r l
  unfolding filter
  filter-ext q r h [] = refl
  filter-ext q r h (x ∷ xs) = rw (h x, filter-ext q r h xs)

  pub filter-ext_on : (q r : A → Bool) (l : List A) → ((x : A) → Memᴰ x l → q x ≡ r x) → filter q l ≡ filter r l
  unfolding filter
  filter-ext_on q r [] h = refl
  filter-ext_on q r (x ∷ xs) h = rw (h x (Memᴰ.head refl), filter-ext_on q r xs (λ y m. h y (Memᴰ.tail m)))

  pub filter-filter : (q r : A → Bool) (l : List A) → filter q (filter r l) ≡ filter (λ (x : A). r x && q x) l
  unfolding filter
  filter-filter q r [] = refl
  filter-filter q r (x ∷ xs) = go (r x) (filter-filter q r xs)
    where
      go : (t : Bool) → filter q (filter r xs) ≡ filter (λ (y : A). r y && q y) xs
          → filter q (keep t x (filter r xs)) ≡ keep (t && q x) x (filter (λ (y : A). r y && q y) xs)
      go true ih = rw ih
      go false ih = ih

  pub filter_comm : (q r : A → Bool) (l : List A) → filter q (filter r l) ≡ filter r (filter q l)
  filter_comm q r l =
      filter-filter q r l
      ∙ filter-ext (λ (x : A). r x && q x) (λ (x : A). q x && r x) (λ x. and_comm (r x) (q x)) l
      ∙ sym (filter-filter r q l)

  -- A filter after a weaker one.
  pub filter-absorb : (q r : A → Bool) → Within q r → (l : List A) → filter q (filter r l) ≡ filter q l
  filter-absorb q r h l = filter-filter q r l ∙ filter-ext (λ (x : A). r x && q x) q (λ x. go (q x) (r x) (h x)) l
    where
      go : (s t : Bool) → (s ≡ true → t ≡ true) → t && s ≡ s
      go true t e = rw (e refl)
      go false true e = refl
      go false false e = refl

  -- A filter before a weaker one.
  pub filter-within : (q r : A → Bool) → Within q r → (l : List A) → filter r (filter q l) ≡ filter q l
  filter-within q r h l = filter_comm r q l ∙ filter-absorb q r h l

  pub filter-all : (q : A → Bool) → ((x : A) → q x ≡ true) → (l : List A) → filter q l ≡ l
  unfolding filter
  filter-all q h [] = refl
  filter-all q h (x ∷ xs) = rw (h x, filter-all q h xs)

  pub filter-all-on : (q : A → Bool) (l : List A) → ((x : A) → Memᴰ x l → q x ≡ true) → filter q l ≡ l
  unfolding filter
  filter-all-on q [] h = refl
  filter-all-on q (x ∷ xs) h = rw (h x (Memᴰ.head refl), filter-all-on q xs (λ y m. h y (Memᴰ.tail m)))

  pub filter_none : (q : A → Bool) → ((x : A) → q x ≡ false) → (l : List A) → filter q l ≡ []
  unfolding filter
  filter_none q h [] = refl
  filter_none q h (x ∷ xs) = rw (h x, filter_none q h xs)

  pub filter-none-on : (q : A → Bool) (l : List A) → ((x : A) → Memᴰ x l → q x ≡ false) → filter q l ≡ []
  unfolding filter
  filter-none-on q [] h = refl
  filter-none-on q (x ∷ xs) h = rw (h x (Memᴰ.head refl), filter-none-on q xs (λ y m. h y (Memᴰ.tail m)))

  -- No member passes q: the others are all.
  pub filter-rest : (q : A → Bool) (l : List A) → filter q l ≡ [] → filter (λ (x : A). not (q x)) l ≡ l
  unfolding filter
  filter-rest q [] e = refl
  filter-rest q (x ∷ xs) e = go (q x) (filter-rest q xs) e
    where
      go : (t : Bool) → (filter q xs ≡ [] → filter (λ (y : A). not (q y)) xs ≡ xs) → keep t x (filter q xs) ≡ []
          → keep (not t) x (filter (λ (y : A). not (q y)) xs) ≡ x ∷ xs
      go true ih e = let z : ◌≡◌ {A = ℕ} 0 1 = cc in absurd (omega arith)
      go false ih e = rw (ih e)

  pub filter-append : (q : A → Bool) (xs ys : List A) → filter q (xs ++ ys) ≡ filter q xs ++ filter q ys
  unfolding filter
  filter-append q [] ys = refl
  filter-append q (x ∷ xs) ys = go (q x) (filter-append q xs ys)
    where
      go : (t : Bool) → filter q (xs ++ ys) ≡ filter q xs ++ filter q ys → keep t x (filter q (xs ++ ys)) ≡ keep t x (filter q xs) ++ filter q ys
      go true ih = rw ih
      go false ih = ih

  pub length-filter : (q : A → Bool) (l : List A) → length (filter q l) ≤ length l
  unfolding filter
  length-filter q [] = zero-le
  length-filter q (x ∷ xs) = go (q x) (length-filter q xs)
    where
      go : (t : Bool) → length (filter q xs) ≤ length xs → length (keep t x (filter q xs)) ≤ suc (length xs)
      go true ih = omega arith
      go false ih = omega arith

  -- A narrower filter keeps no more.
  pub length-within : (q r : A → Bool) → Within q r → (l : List A) → length (filter q l) ≤ length (filter r l)
  length-within q r h l = rw (← filter-absorb q r h l) (length-filter q (filter r l))

  pub length-split : (q : A → Bool) (l : List A) → length (filter q l) + length (filter (λ (x : A). not (q x)) l) ≡ length l
  unfolding filter
  length-split q [] = refl
  length-split q (x ∷ xs) = go (q x) (length-split q xs)
    where
      go : (t : Bool) → length (filter q xs) + length (filter (λ (y : A). not (q y)) xs) ≡ length xs
          → length (keep t x (filter q xs)) + length (keep (not t) x (filter (λ (y : A). not (q y)) xs)) ≡ suc (length xs)
      go true ih = omega arith
      go false ih = omega arith

  -- Members of a filtered list, both ways.
  pub member_filter : (q : A → Bool) (l : List A) (x : A) → Memᴰ x (filter q l) → Memᴰ x l × (q x ≡ true)
  unfolding filter
  member_filter q [] x m = absurd (Memᴰ.not-nil m)
  member_filter q (y ∷ ys) x m = go (q y) refl (member_filter q ys x) m
    where
      go : (t : Bool) → q y ≡ t → (Memᴰ x (filter q ys) → Memᴰ x ys × (q x ≡ true)) → Memᴰ x (keep t y (filter q ys)) → Memᴰ x (y ∷ ys) × (q x ≡ true)
      go true e ih m = ⊎_elim (λ (p : x ≡ y). (Memᴰ.head p, ap q p ∙ e)) (λ m'. (Memᴰ.tail (ih m').0, (ih m').1)) (Memᴰ.cases_cons m)
      go false e ih m = (Memᴰ.tail (ih m).0, (ih m).1)

  pub filter-member : (q : A → Bool) (l : List A) (x : A) → Memᴰ x l → q x ≡ true → Memᴰ x (filter q l)
  unfolding filter
  filter-member q [] x m h = absurd (Memᴰ.not-nil m)
  filter-member q (y ∷ ys) x m h = go (q y) refl (λ m'. filter-member q ys x m' h) (Memᴰ.cases_cons m)
    where
      go : (t : Bool) → q y ≡ t → (Memᴰ x ys → Memᴰ x (filter q ys)) → (x ≡ y) ⊎ Memᴰ x ys → Memᴰ x (keep t y (filter q ys))
      go true e ih (inl p) = Memᴰ.head p
      go true e ih (inr m') = Memᴰ.tail (ih m')
      go false e ih (inl p) = absurd (true≢false (sym h ∙ ap q p ∙ e))
      go false e ih (inr m') = ih m'
