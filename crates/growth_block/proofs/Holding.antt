-- Where the new page has not overflowed and has room, the stored separators hold all stars under the next growth state: the growth is accepted.
use mathlib.Core.Path.{◌≡◌, refl, sym, ap, ◌∙◌}
use mathlib.Core.Bool.{Bool, true, false, not, ◌&&◌, ◌||◌}
use mathlib.Core.List.{List, [], ◌∷◌, map, Memᴰ}
use Prim.Native.Nat.{ℕ, zero, suc, ◌+◌, ◌-◌, ◌≤◌, ◌<◌}
use native.Mathlib.Nat.{zero-add, le_trans}
use native.Mathlib.Numerals.{add-one}
use native.Mathlib.Omega.{arith}
use lib.Dec.{eqb}
use lib.ListN.{length}
use borrow.Author.Tests.{eqb-true, eqb-false, eq-eqb, ne_eqb}
use Rattle.hashing.specs.declared.Parameters.{Parameters}
use Rattle.hashing.specs.declared.Growth.{Growth}
use Rattle.hashing.specs.Geometry.{page_count, grown}
use Rattle.hashing.specs.Limits.{valid_parameters, valid_growth}
use Rattle.pages.specs.Page.{part}
use Rattle.pages.specs.Position.{valid_word}
use Rattle.placement.specs.Rule.{Star, Hash, keep, filter, first, left, pour}
use Rattle.placement.specs.File.{File, stars_at, gathered}
use Rattle.placement.specs.Shape.{Sized}
use Rattle.placement.specs.Hash.{hash_of}
use Rattle.placement.proofs.Filters.{Within, filter-none-on, length-within}
use Rattle.placement.proofs.Order.{filter-pour, length-pour}
use Rattle.placement.proofs.Pages.{Numbered}
use Rattle.placement.proofs.Files.{number_of}
use Rattle.placement.proofs.Standing.{stands_at}
use Rattle.placement.proofs.Domination.{Holds, holds-first, dominated}
use Rattle.placement.proofs.Sound.{AllSound, sorted-gathered, gathered-add, gathered-member, gathered-first, stands-gathered, length-stars_at}
use Rattle.reach.specs.Reach.{first_unsound_lem, all_stars}
use Rattle.page_edit.proofs.Shifted.{of_numbers_lem}
use Rattle.growth_in_place.specs.Expansion.{joins, joins_at, joiners_in, joiners_below, page_stars, Spacious}
use Rattle.growth_in_place.proofs.Fewer.{joiners_padded}
use Rattle.growth_in_place.proofs.Whole.{facts, here-before, ordered-before, numbered-before, low-before, few, named-joined, named-kept}

-- of two tests, one or the other
length-or : (a b : Star → Bool) (l : List Star) → length (filter (λ (s : Star). a s || b s) l) ≤ length (filter a l) + length (filter b l)
unfolding filter
length-or a b [] = omega arith
length-or a b (s ∷ l) = go (a s) (b s) (length-or a b l)
  where
    go : (t u : Bool) → length (filter (λ (s : Star). a s || b s) l) ≤ length (filter a l) + length (filter b l)
        → length (keep (t || u) s (filter (λ (s : Star). a s || b s) l))
        ≤ length (keep t s (filter a l)) + length (keep u s (filter b l))
    go true true h = omega arith
    go true false h = omega arith
    go false true h = omega arith
    go false false h = h

-- those of two lists poured together
length-poured : (a : Star → Bool) (xs : List Star) (b : ℕ) (f : File) (q n : ℕ)
    → length (filter a (pour xs (gathered b f q n))) ≡ length (filter a xs) + length (filter a (gathered b f q n))
length-poured a xs b f q n = ap length (filter-pour a xs (gathered b f q n) (sorted-gathered b f q n)) ∙ length-pour (filter a xs) (filter a (gathered b f q n))

module _ (p : Parameters) (g : Growth) (f : File) (valid : valid_parameters p ≡ true) (grows : valid_growth p g ≡ true) (sized : Sized p.places p.pages f)
    (all : first_unsound_lem p g f 0 p.pages ≡ p.pages) (room : page_count p g < p.pages) (spacious : Spacious p g f.separators f.numbers) where
  abbrev P : ℕ
  P = page_count p g

  abbrev H : Hash
  H = hash_of p g

  abbrev H' : Hash
  H' = hash_of p (grown p g)

  pub all_sound : AllSound valid_word H f 0 p.pages
  all_sound q a h = facts p g f valid grows sized all room spacious.top q (omega arith)

  joined : (k : ℕ) → joins p g k ≡ true → first H' 0 f.separators k ≡ P
  joined = named-joined p g f valid grows sized all room spacious.top

  kept : (k : ℕ) → joins p g k ≡ false → first H' 0 f.separators k ≡ first H 0 f.separators k
  kept = named-kept p g f valid grows sized all room spacious.top

  -- another page gets no star that it does not hold
  no_more : (q : ℕ) → (q ≡ P → ⊥) → Within (stands_at H' 0 f.separators q) (stands_at H 0 f.separators q)
  no_more q other s e = go (joins p g s.number) refl
    where
      go : (t : Bool) → joins p g s.number ≡ t → stands_at H 0 f.separators q s ≡ true
      go true j = absurd (other (sym (eqb-true _ q e) ∙ joined s.number j))
      go false j = eq-eqb _ q (sym (kept s.number j) ∙ eqb-true _ q e)

  -- a star that comes to the new page from another
  comes : Star → Bool
  comes s = joins p g s.number && not (stands_at H 0 f.separators P s)

  some_more : Within (stands_at H' 0 f.separators P) (λ (s : Star). stands_at H 0 f.separators P s || comes s)
  unfolding comes
  some_more s e = go (joins p g s.number) refl (stands_at H 0 f.separators P s) refl
    where
      go : (t : Bool) → joins p g s.number ≡ t → (u : Bool) → stands_at H 0 f.separators P s ≡ u → u || (t && not u) ≡ true
      go t j true d = refl
      go true j false d = refl
      go false j false d = sym d ∙ eq-eqb _ P (sym (kept s.number j) ∙ eqb-true _ P e)

  comes-listed : (l : List Star) → Numbered l → length (filter comes l) ≤ joiners_in p g (map number_of l)
  unfolding filter comes joiners_in joins_at
  comes-listed [] a = omega arith
  comes-listed (s ∷ l) a = rw (ne_eqb s.number 0 (λ z. omega (arith, z, a s (Memᴰ.head refl)))) (go (joins p g s.number) (stands_at H 0 f.separators P s) (comes-listed l (λ t m. a t (Memᴰ.tail m))))
    where
      go : (t u : Bool) → length (filter comes l) ≤ joiners_in p g (map number_of l)
          → length (keep (t && not u) s (filter comes l)) ≤ length (keep t s.number (filter (joins_at p g) (map number_of l)))
      go true true h = omega arith
      go true false h = omega arith
      go false u h = h

  comes-on : (q : ℕ) → q < p.pages → length (filter comes (stars_at p.places f q)) ≤ joiners_in p g (part p.places q f.numbers)
  unfolding stars_at
  comes-on q h =
      let stars : List Star = page_stars p f.numbers f.words f.owners q in
      let same : joiners_in p g (part p.places q f.numbers) ≡ joiners_in p g (map number_of stars) =
      ap (joiners_in p g) (of_numbers_lem p.places q f.numbers f.words f.owners (ordered-before p g f valid grows sized all room spacious.top q h)).1
      ∙ joiners_padded p g p.places (map number_of stars) in
      omega (arith, same, comes-listed stars (numbered-before p g f valid grows sized all room spacious.top q h))

  comes-below : (n : ℕ) → n ≤ p.pages → length (filter comes (gathered p.places f 0 n)) ≤ joiners_below p g f.numbers n
  unfolding joiners_below filter gathered pour
  comes-below zero h = omega arith
  comes-below (suc n) h =
      let split : gathered p.places f 0 (suc n) ≡ pour (gathered p.places f 0 n) (gathered p.places f n 1) =
      rw (add-one n, zero-add n) at (gathered-add p.places f 0 n 1) in
      let both = ap (λ (l : List Star). length (filter comes l)) split ∙ length-poured comes (gathered p.places f 0 n) p.places f n 1 in
      let last : length (filter comes (gathered p.places f n 1)) ≡ length (filter comes (stars_at p.places f n)) + 0 =
      length-poured comes (stars_at p.places f n) p.places f (suc n) 0 in
      omega (arith, both, last, comes-below n (omega arith), comes-on n (omega arith))

  none_above : filter comes (gathered p.places f P (p.pages - P)) ≡ []
  unfolding comes stars_at
  none_above =
      filter-none-on comes (gathered p.places f P (p.pages - P))
      (λ s m.
      let there = gathered-member p.places f P (p.pages - P) s m in
      let inside : there.0 < p.pages = omega (arith, there.2, room) in
      let most = low-before p g f valid grows sized all room spacious.top there.0 inside s there.3 in
      let here : first H 0 f.separators s.number ≡ P = here-before p g f valid grows sized all room spacious.top there.0 inside s there.3 ∙ omega (arith, most, there.1) in
      rw (eq-eqb _ P here) (and_none (joins p g s.number)))
    where
      and_none : (t : Bool) → t && false ≡ false
      and_none true = refl
      and_none false = refl

  comes-all : length (filter comes (all_stars p f)) ≤ joiners_below p g f.numbers P
  comes-all =
      let sum : P + (p.pages - P) ≡ p.pages = omega (arith, room) in
      let split : all_stars p f ≡ pour (gathered p.places f 0 P) (gathered p.places f P (p.pages - P)) =
      rw (sum, zero-add P) at (gathered-add p.places f 0 P (p.pages - P)) in
      omega (
        arith,
        ap (λ (l : List Star). length (filter comes l)) split ∙ length-poured comes (gathered p.places f 0 P) p.places f P (p.pages - P),
        ap length none_above,
        comes-below P (omega (arith, room)),
      )

  stars-on : (q : ℕ) → q < p.pages → filter (stands_at H 0 f.separators q) (all_stars p f) ≡ stars_at p.places f q
  unfolding hash_of
  stars-on q h = stands-gathered valid_word H f 0 p.pages q all_sound (omega arith) (omega arith)

  few_on : length (stars_at p.places f P) + joiners_below p g f.numbers P ≤ p.places
  unfolding stars_at
  few_on = few p g f valid grows sized all room spacious.top (joiners_below p g f.numbers P) spacious.room

  -- how many stars a page gets under the next growth state, with the separators that are stored
  most-on : (q : ℕ) → q < p.pages → length (filter (stands_at H' 0 f.separators q) (all_stars p f)) ≤ p.places
  unfolding hash_of
  most-on q h = go (eqb q P) refl
    where
      go : (t : Bool) → eqb q P ≡ t → length (filter (stands_at H' 0 f.separators q) (all_stars p f)) ≤ p.places
      go true e =
          rw (eqb-true q P e)
          (omega (
            arith,
            length-within (stands_at H' 0 f.separators P) (λ (s : Star). stands_at H 0 f.separators P s || comes s) some_more (all_stars p f),
            length-or (stands_at H 0 f.separators P) comes (all_stars p f),
            ap length (stars-on P room),
            comes-all,
            few_on,
          ))
      go false e =
          le_trans
          (length-within (stands_at H' 0 f.separators q) (stands_at H 0 f.separators q) (no_more q (eqb-false q P e)) (all_stars p f))
          (rw (stars-on q h) (length-stars_at valid_word H f p.pages q sized h))

  none-past : filter (stands_at H' 0 f.separators (length f.separators)) (all_stars p f) ≡ []
  none-past =
      filter-none-on (stands_at H' 0 f.separators (length f.separators)) (all_stars p f)
      (λ s m.
      ne_eqb _ (length f.separators)
      (λ e. omega (
        arith,
        sized.of_separators,
        (gathered-first valid_word H f 0 p.pages all_sound s (unfold hash_of in m)).1,
        eqb-true _ (length f.separators) (no_more (length f.separators) (λ z. omega (arith, z, sized.of_separators, room)) s (eq-eqb _ (length f.separators) e)),
      )))

  pub all_held : Holds H' 0 f.separators (all_stars p f)
  unfolding hash_of
  all_held =
      holds-first H' 0 f.separators (all_stars p f)
      (λ i h. (all_sound i (omega arith) (omega (arith, sized.of_separators))).at_most)
      (λ i h. rw (zero-add i) (most-on i (omega (arith, sized.of_separators))))
      (rw (zero-add (length f.separators)) none-past)

  -- the growth is accepted
  pub nothing-past : left H' 0 p.pages (all_stars p f) ≡ []
  nothing-past = rw sized.of_separators at (dominated H' 0 f.separators (all_stars p f) all_held)
