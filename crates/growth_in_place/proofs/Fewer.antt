-- One star less on a page is one less that joins the new page; and a list with one star more, by its members.
use mathlib.Core.Path.{◌≡◌, refl, sym, ap, ◌∙◌}
use mathlib.Core.Bool.{Bool, true}
use mathlib.Core.Logic.{◌⊎◌, inl, inr}
use mathlib.Core.List.Memᴰ
use mathlib.Core.List.{List, [], ◌∷◌, ◌++◌, map, map-append, Memᴰ}
use Prim.Native.Nat.{ℕ, zero, suc, ◌+◌, ◌-◌, ◌<◌}
use native.Mathlib.Decide.{dec_lt}
use native.Mathlib.Omega.{arith}
use lib.ListN.{length, drop, replicate, length-append}
use lib.Seq.{append_snoc, drop_at}
use Rattle.buffers.specs.Lists.{padded}
use Rattle.hashing.specs.declared.Parameters.{Parameters}
use Rattle.hashing.specs.declared.Growth.{Growth}
use Rattle.pages.specs.Page.{part}
use Rattle.placement.specs.Rule.{Star, filter}
use Rattle.placement.proofs.Filters.{filter-append}
use Rattle.placement.proofs.Files.{number_of}
use Rattle.page_edit.proofs.Splits.{Split}
use Rattle.growth_in_place.specs.Expansion.{joins_at, joiners_in, joiners_below}

-- s between the others
pub split-cases : (front back : List Star) (s t : Star) → Memᴰ t (front ++ (s ∷ back)) → (t ≡ s) ⊎ Memᴰ t (front ++ back)
split-cases [] back s t m = Memᴰ.cases_cons m
split-cases (x ∷ front) back s t m = go (split-cases front back s t) (Memᴰ.cases_cons m)
  where
    later : (t ≡ s) ⊎ Memᴰ t (front ++ back) → (t ≡ s) ⊎ Memᴰ t (x ∷ (front ++ back))
    later (inl e) = inl e
    later (inr n) = inr (Memᴰ.tail n)

    go : (Memᴰ t (front ++ (s ∷ back)) → (t ≡ s) ⊎ Memᴰ t (front ++ back)) → (t ≡ x) ⊎ Memᴰ t (front ++ (s ∷ back))
        → (t ≡ s) ⊎ Memᴰ t (x ∷ (front ++ back))
    go ih (inl e) = inr (Memᴰ.head e)
    go ih (inr n) = later (ih n)

pub split-middle : (front back : List Star) (s : Star) → Memᴰ s (front ++ (s ∷ back))
split-middle [] back s = Memᴰ.head refl
split-middle (x ∷ front) back s = Memᴰ.tail (split-middle front back s)

-- what stands behind it
pub split-drop : {s : Star} {less more : List Star} {i : ℕ} → Split s less more i → drop i less ≡ drop (suc i) more
split-drop {s} {less} {more} {i} d =
    ap (drop i) d.is_less
    ∙ drop_at d.front d.back i d.at
    ∙ sym
    (ap (drop (suc i)) (d.is_more ∙ sym (append_snoc d.front s d.back))
    ∙ drop_at (d.front ++ (s ∷ [])) d.back (suc i) (length-append d.front (s ∷ []) ∙ omega (arith, d.at)))

module _ (p : Parameters) (g : Growth) where
  none-empty : (n : ℕ) → filter (joins_at p g) (replicate n 0) ≡ []
  unfolding filter joins_at
  none-empty zero = refl
  none-empty (suc n) = none-empty n

  -- empty places do not count
  pub joiners_padded : (b : ℕ) (l : List ℕ) → joiners_in p g (padded b l) ≡ joiners_in p g l
  unfolding joiners_in padded
  joiners_padded b l =
      ap length (filter-append (joins_at p g) l (replicate (b - length l) 0))
      ∙ length-append (filter (joins_at p g) l) (filter (joins_at p g) (replicate (b - length l) 0))
      ∙ omega (arith, ap length (none-empty (b - length l)))

  pub joiners_split : {s : Star} {less more : List Star} {i : ℕ} → Split s less more i → joins_at p g s.number ≡ true
      → joiners_in p g (map number_of more) ≡ suc (joiners_in p g (map number_of less))
  unfolding joiners_in filter
  joiners_split {s} {less} {more} {i} d e =
      let F : List ℕ = map number_of d.front in
      let B : List ℕ = map number_of d.back in
      let q : ℕ → Bool = joins_at p g in
      let most : length (filter q (map number_of more)) ≡ length (filter q F) + length (filter q (s.number ∷ B)) =
      ap (λ (l : List ℕ). length (filter q l)) (ap (map number_of) d.is_more ∙ map-append number_of d.front (s ∷ d.back))
      ∙ ap length (filter-append q F (s.number ∷ B))
      ∙ length-append (filter q F) (filter q (s.number ∷ B)) in
      let least : length (filter q (map number_of less)) ≡ length (filter q F) + length (filter q B) =
      ap (λ (l : List ℕ). length (filter q l)) (ap (map number_of) d.is_less ∙ map-append number_of d.front d.back)
      ∙ ap length (filter-append q F B)
      ∙ length-append (filter q F) (filter q B) in
      let one : length (filter q (s.number ∷ B)) ≡ suc (length (filter q B)) = rw e in
      omega (arith, most, least, one)

  below-same : (ns ns' : List ℕ) (n : ℕ) → ((r : ℕ) → r < n → part p.places r ns' ≡ part p.places r ns) → joiners_below p g ns' n ≡ joiners_below p g ns n
  unfolding joiners_below
  below-same ns ns' zero h = refl
  below-same ns ns' (suc n) h = rw (below-same ns ns' n (λ r k. h r (omega arith)), h n (omega arith))

  -- one less on page q, and the others below n stay
  pub below_less : (ns ns' : List ℕ) (q n : ℕ) → q < n → ((r : ℕ) → r < n → (r ≡ q → ⊥) → part p.places r ns' ≡ part p.places r ns)
      → joiners_in p g (part p.places q ns) ≡ suc (joiners_in p g (part p.places q ns')) → joiners_below p g ns n ≡ suc (joiners_below p g ns' n)
  unfolding joiners_below
  below_less ns ns' q zero k h e = absurd (omega arith)
  below_less ns ns' q (suc n) k h e = go (dec_lt q n) (below_less ns ns' q n)
    where
      go : Dec (q < n)
          → (q < n → ((r : ℕ) → r < n → (r ≡ q → ⊥) → part p.places r ns' ≡ part p.places r ns)
          → joiners_in p g (part p.places q ns) ≡ suc (joiners_in p g (part p.places q ns')) → joiners_below p g ns n ≡ suc (joiners_below p g ns' n))
          → joiners_below p g ns n + joiners_in p g (part p.places n ns) ≡ suc (joiners_below p g ns' n + joiners_in p g (part p.places n ns'))
      go (yes d) ih =
          let same = ap (joiners_in p g) (h n (omega arith) (λ z. omega (arith, z))) in
          omega (arith, ih d (λ r a c. h r (omega arith) c) e, same)
      go (no d) ih =
          let at : q ≡ n = omega arith in
          let one : joiners_in p g (part p.places n ns) ≡ suc (joiners_in p g (part p.places n ns')) = rw at at e in
          let same = below-same ns ns' n (λ r a. h r (omega arith) (λ z. omega (arith, z))) in
          omega (arith, one, same)
