-- The places of a page, looked at from the last to the first, and the moves that follow one another.
use mathlib.Core.Path.{◌≡◌, refl, sym, ap, ◌∙◌}
use mathlib.Core.Bool.{true, false, false≢true}
use mathlib.Core.Logic.{◌⊎◌, inl, inr, ⊎_elim}
use mathlib.Core.List.Memᴰ
use mathlib.Core.List.{List, [], ◌∷◌, map, Memᴰ}
use Prim.Native.Nat.{ℕ, zero, suc, ◌+◌, ◌-◌, ◌*◌, ◌≤◌, ◌<◌}
use native.Mathlib.Decide.{dec_lt}
use native.Mathlib.Omega.{arith}
use lib.ListN.{drop, get_or, drop_of_length-le}
use lib.Seq.{drop-nil}
use borrow.Author.Tests.{ne_eqb}
use Rattle.buffers.proofs.Lists.{padded-item}
use Rattle.hashing.specs.declared.Parameters.{Parameters}
use Rattle.hashing.specs.declared.Growth.{Growth}
use Rattle.hashing.specs.Geometry.{multiplier_of, page_count}
use Rattle.hashing.specs.Home.{home}
use Rattle.pages.specs.Page.{part}
use Rattle.pages.proofs.Parts.{part-item, part_length}
use Rattle.placement.specs.Rule.{Star}
use Rattle.placement.specs.Shape.{home_in}
use Rattle.placement.proofs.Pages.{Numbered, length-stars_of}
use Rattle.placement.proofs.Files.{number_of}
use Rattle.page_edit.proofs.Shifted.{of_numbers_lem}
use Rattle.growth_in_place.specs.Expansion.{joins, joins_at, page_stars, NoneJoins, SettledBelow, home_on, Moving, KeptStars}
use Rattle.growth_in_place.proofs.Step.{ordered, numbered}

module _ (p : Parameters) (g : Growth) where
  -- a number at a place that joins the new page
  pub held-joins : (n : ℕ) → joins_at p g n ≡ true → (0 < n) × (joins p g n ≡ true)
  unfolding joins_at
  held-joins zero e = absurd (false≢true e)
  held-joins (suc n) e = (omega arith, rw (ne_eqb (suc n) 0 (λ z. omega (arith, z))) at e)

  -- moves after moves
  pub kept-none : (ns ws os : List ℕ) → KeptStars p g ns ws os ns ws os
  kept-none ns ws os = record { back = λ q h s m. inl m; forth = λ q h s m. inl m }

  module _ (ns ws os ns₁ ws₁ os₁ ns₂ ws₂ os₂ : List ℕ) (room : page_count p g < p.pages) (a : KeptStars p g ns ws os ns₁ ws₁ os₁) (b : KeptStars p g ns₁ ws₁ os₁ ns₂ ws₂ os₂) where
    abbrev Back : ℕ → Star → List ℕ → List ℕ → List ℕ → Type 0
    Back q s ms vs ts =
        Memᴰ s (page_stars p ms vs ts q)
        ⊎ ((q ≡ page_count p g) × (joins p g s.number ≡ true) × ((r : ℕ) × (r < p.pages) × Memᴰ s (page_stars p ms vs ts r)))

    abbrev Forth : ℕ → Star → List ℕ → List ℕ → List ℕ → Type 0
    Forth q s ms vs ts = Memᴰ s (page_stars p ms vs ts q) ⊎ ((joins p g s.number ≡ true) × Memᴰ s (page_stars p ms vs ts (page_count p g)))

    pub kept_more : KeptStars p g ns ws os ns₂ ws₂ os₂
    kept_more = record { back = λ q h s m. down q h s (b.back q h s m); forth = λ q h s m. up q h s (a.forth q h s m) }
      where
        origin : (q : ℕ) (s : Star) → q < p.pages → Back q s ns ws os → (r : ℕ) × (r < p.pages) × Memᴰ s (page_stars p ns ws os r)
        origin q s h (inl m) = (q, h, m)
        origin q s h (inr m) = m.2

        down : (q : ℕ) → q < p.pages → (s : Star) → Back q s ns₁ ws₁ os₁ → Back q s ns ws os
        down q h s (inl m) = a.back q h s m
        down q h s (inr (e, j, (r, k, m))) = inr (e, j, origin r s k (a.back r k s m))

        new : (s : Star) → Forth (page_count p g) s ns₂ ws₂ os₂ → Memᴰ s (page_stars p ns₂ ws₂ os₂ (page_count p g))
        new s (inl m) = m
        new s (inr m) = m.1

        up : (q : ℕ) → q < p.pages → (s : Star) → Forth q s ns₁ ws₁ os₁ → Forth q s ns₂ ws₂ os₂
        up q h s (inl m) = b.forth q h s m
        up q h s (inr (j, m)) = inr (j, new s (b.forth (page_count p g) room s m))

  -- the items of these stars' columns
  column-item : (f : Star → ℕ) (l : List Star) (j : ℕ) → Numbered l → ((s : Star) → f s ≡ home (multiplier_of p) p g s.number)
      → get_or (map f l) j 0 ≡ home_in p g (get_or (map number_of l) j 0)
  column-item f [] j n h = refl
  column-item f (s ∷ l) zero n h = h s ∙ rw (ne_eqb s.number 0 (λ z. omega (arith, z, n s (Memᴰ.head refl))))
  column-item f (s ∷ l) (suc j) n h = column-item f l j (λ t m. n t (Memᴰ.tail m)) h

  -- the stars from a place on
  first-behind : (l : List Star) (j : ℕ) → joins_at p g (get_or (map number_of l) j 0) ≡ false → Numbered l → NoneJoins p g (drop (suc j) l) → NoneJoins p g (drop j l)
  unfolding joins_at
  first-behind [] j e n h s m = absurd (Memᴰ.not-nil (rw (drop-nil j) at m))
  first-behind (t ∷ l) zero e n h s m =
      ⊎_elim
      (λ (d : s ≡ t). ap (λ (x : Star). joins p g x.number) d ∙ (rw (ne_eqb t.number 0 (λ z. omega (arith, z, n t (Memᴰ.head refl)))) at e))
      (λ (d : Memᴰ s l). h s d)
      (Memᴰ.cases_cons m)
  first-behind (t ∷ l) (suc j) e n h s m = first-behind l j e (λ x y. n x (Memᴰ.tail y)) h s m

  module _ (ns ws os hs : List ℕ) (u : Moving p g ns ws os hs) (q : ℕ) (inside : q < p.pages) where
    abbrev stars : List Star
    stars = page_stars p ns ws os q

    item-is : (j : ℕ) → j < p.places → get_or ns (q * p.places + j) 0 ≡ get_or (map number_of stars) j 0
    item-is j h =
        sym (part-item p.places q ns j h)
        ∙ ap (λ (l : List ℕ). get_or l j 0) (of_numbers_lem p.places q ns ws os (ordered p g ns ws os hs u q inside)).1
        ∙ padded-item p.places (map number_of stars) j

    pub home-there : (j : ℕ) → j < p.places → (q ≡ page_count p g → ⊥) → get_or hs (q * p.places + j) 0 ≡ home_in p g (get_or ns (q * p.places + j) 0)
    unfolding home_on
    home-there j h other =
        sym (part-item p.places q hs j h)
        ∙ ap (λ (l : List ℕ). get_or l j 0) (u.homes q inside)
        ∙ padded-item p.places (map (home_on p g q) stars) j
        ∙ column-item (home_on p g q) stars j (numbered p g ns ws os hs u q inside) (λ s. rw (ne_eqb q (page_count p g) other))
        ∙ ap (home_in p g) (sym (item-is j h))

    pub none-behind : NoneJoins p g (drop p.places stars)
    none-behind s m =
        let all : drop p.places stars ≡ [] =
        drop_of_length-le stars {i = p.places}
        (omega (
          arith,
          length-stars_of (part p.places q ns) (part p.places q ws) (part p.places q os),
          part_length p.places q ns (ordered p g ns ws os hs u q inside).in_numbers,
        )) in
        absurd (Memᴰ.not-nil (rw all at m))

    pub stays-there : (j : ℕ) → j < p.places → joins_at p g (get_or ns (q * p.places + j) 0) ≡ false → NoneJoins p g (drop (suc j) stars) → NoneJoins p g (drop j stars)
    stays-there j h e n = first-behind stars j (ap (joins_at p g) (sym (item-is j h)) ∙ e) (numbered p g ns ws os hs u q inside) n

  -- one place further down, i being the places still to be looked at
  pub taken-there : (i : ℕ) (l l' : List Star) → 0 < i → drop (i - 1) l' ≡ drop (suc (i - 1)) l → NoneJoins p g (drop i l) → NoneJoins p g (drop (i - 1) l')
  taken-there i l l' h e n s m =
      let same : suc (i - 1) ≡ i = omega arith in
      n s (rw (e, same) at m)

  pub left_there : (ns ws os hs : List ℕ) → Moving p g ns ws os hs → (q i : ℕ) → q < p.pages → 0 < i → i ≤ p.places
      → joins_at p g (get_or ns (q * p.places + (i - 1)) 0) ≡ false → NoneJoins p g (drop i (page_stars p ns ws os q)) → NoneJoins p g (drop (i - 1) (page_stars p ns ws os q))
  left_there ns ws os hs u q i inside h k e n =
      let same : i ≡ suc (i - 1) = omega arith in
      stays-there ns ws os hs u q inside (i - 1) (omega arith) e (λ s m. n s (rw (← same) at m))

  -- a page more has no star left to move
  pub settled-next : (ns ws os ns' ws' os' : List ℕ) (q : ℕ) → KeptStars p g ns ws os ns' ws' os' → q < page_count p g → page_count p g < p.pages
      → SettledBelow p g q ns ws os → NoneJoins p g (page_stars p ns' ws' os' q) → SettledBelow p g (q + 1) ns' ws' os'
  settled-next ns ws os ns' ws' os' q kept low room done here r h s m = go (dec_lt r q)
    where
      go : Dec (r < q) → joins p g s.number ≡ false
      go (yes d) =
          ⊎_elim
          (λ (n : Memᴰ s (page_stars p ns ws os r)). done r d s n)
          (λ (n : (r ≡ page_count p g) × (joins p g s.number ≡ true) × ((t : ℕ) × (t < p.pages) × Memᴰ s (page_stars p ns ws os t))). absurd (omega (arith, n.0)))
          (kept.back r (omega arith) s m)
      go (no d) =
          let at : r ≡ q = omega arith in
          here s (rw at at m)
