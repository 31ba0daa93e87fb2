-- A page's stars against the search of its numbers (crate pages), and look-ups in the file that the rule lays.
use mathlib.Core.Path.{◌≡◌, refl, sym, ap, ◌∙◌}
use mathlib.Core.Bool.{Bool, true, false, not, true≢false}
use mathlib.Core.List.Memᴰ
use mathlib.Core.List.{List, [], ◌∷◌, ◌++◌, map, Memᴰ}
use mathlib.Core.Logic.{⊎_elim}
use Prim.Native.Nat.{ℕ, zero, suc, ◌-◌, ◌≤◌, ◌<◌}
use native.Mathlib.Nat.{zero-add}
use native.Mathlib.Omega.{arith}
use lib.Dec.{eqb}
use lib.ListN.{length, get_or}
use borrow.Author.Tests.{lt-ltb, eqb-false, ne_eqb}
use Rattle.buffers.specs.Lists.{padded}
use Rattle.pages.specs.Page as page
use Rattle.pages.specs.Shape as shape
use Rattle.pages.specs.Page.{part, place_of, held_at}
use Rattle.pages.proofs.Places.{held-there, place_is, held-at, rising-orderly}
use Rattle.placement.specs.Rule.{Star, Hash, keep, pages, left, first, separators, star_with}
use Rattle.placement.specs.File.{stars_of, stars_at, orderly, greatest, file_of, laid}
use Rattle.placement.proofs.Standing.{looked_up_lem}
use Rattle.placement.proofs.Order.{Rising, Absent}
use Rattle.placement.proofs.Writing.{length_part}
use Rattle.placement.proofs.Pages.{Proper, orderly-rising, orderly-columns}
use Rattle.placement.proofs.Files.{number_of, page-member, stars_at-laid, sized-laid}
use Rattle.placement.proofs.Sound.{sound-laid}

rising-numbers : (last : ℕ) (l : List Star) → Rising (suc last) l → shape.rising last (map number_of l) ≡ true
unfolding shape.rising
rising-numbers last [] r = refl
rising-numbers last (s ∷ l) r = rw (lt-ltb last s.number r.0) (rising-numbers s.number l r.1)

-- A word and an owner for each number.
abbrev pub Even : List ℕ → List ℕ → List ℕ → Type 0
Even ns ws os = (length ns ≡ length ws) × (length ns ≡ length os)

-- The stars of parallel lists, one after the other.
pub stars_of-append : (ns ws os ns' ws' os' : List ℕ) → Even ns ws os → stars_of (ns ++ ns') (ws ++ ws') (os ++ os') ≡ stars_of ns ws os ++ stars_of ns' ws' os'
unfolding stars_of
stars_of-append [] [] [] ns' ws' os' h = refl
stars_of-append [] (w ∷ ws) os ns' ws' os' h = absurd (omega arith)
stars_of-append [] [] (o ∷ os) ns' ws' os' h = absurd (omega arith)
stars_of-append (n ∷ ns) [] os ns' ws' os' h = absurd (omega arith)
stars_of-append (n ∷ ns) (w ∷ ws) [] ns' ws' os' h = absurd (omega arith)
stars_of-append (n ∷ ns) (w ∷ ws) (o ∷ os) ns' ws' os' h = go (not (eqb n 0)) (stars_of-append ns ws os ns' ws' os' (omega arith, omega arith))
  where
    star : Star
    star = star_with n w o

    go : (t : Bool) → stars_of (ns ++ ns') (ws ++ ws') (os ++ os') ≡ stars_of ns ws os ++ stars_of ns' ws' os'
        → keep t star (stars_of (ns ++ ns') (ws ++ ws') (os ++ os')) ≡ keep t star (stars_of ns ws os) ++ stars_of ns' ws' os'
    go true ih = rw ih
    go false ih = ih

-- The numbers of an orderly page are orderly in the sense of the search.
pub orderly-numbers : (ok : ℕ → Bool) (last : ℕ) (ns ws os : List ℕ) → last ≤ greatest → Even ns ws os → orderly ok last ns ws os ≡ true → shape.orderly_numbers last ns ≡ true
unfolding padded
orderly-numbers ok last ns ws os h l e =
    ap (shape.orderly_numbers last) (orderly-columns ok last ns ws os l.0 l.1 e).0
    ∙ rising-orderly last (map number_of (stars_of ns ws os)) (length ns - length (map number_of (stars_of ns ws os)))
    (rising-numbers last (stars_of ns ws os) (orderly-rising ok last ns ws os h e))

-- A star's place, and the star at a place.
abbrev Place : Star → List ℕ → List ℕ → List ℕ → Type 0
Place s ns ws os = (i : ℕ) × (i < length ns) × (get_or ns i 0 ≡ s.number) × (get_or ws i 0 ≡ s.payload.word) × (get_or os i 0 ≡ s.payload.owner) × (1 ≤ s.number)

pub star-at : (ns ws os : List ℕ) (s : Star) → Memᴰ s (stars_of ns ws os) → Place s ns ws os
unfolding stars_of
star-at [] ws os s m = absurd (Memᴰ.not-nil m)
star-at (n ∷ ns) [] os s m = absurd (Memᴰ.not-nil m)
star-at (n ∷ ns) (w ∷ ws) [] s m = absurd (Memᴰ.not-nil m)
star-at (n ∷ ns) (w ∷ ws) (o ∷ os) s m = go (eqb n 0) refl (star-at ns ws os s) m
  where
    later : Place s ns ws os → Place s (n ∷ ns) (w ∷ ws) (o ∷ os)
    later r = (suc r.0, omega (arith, r.1), r.2, r.3, r.4, r.5)

    go : (t : Bool) → eqb n 0 ≡ t → (Memᴰ s (stars_of ns ws os) → Place s ns ws os)
        → Memᴰ s (keep (not t) (star_with n w o) (stars_of ns ws os)) → Place s (n ∷ ns) (w ∷ ws) (o ∷ os)
    go true e ih m = later (ih m)
    go false e ih m =
        ⊎_elim
        (λ (d : s ≡ star_with n w o).
        let k : s.number ≡ n = ap number_of d in
        let v : s.payload.word ≡ w = ap (λ (x : Star). x.payload.word) d in
        let u : s.payload.owner ≡ o = ap (λ (x : Star). x.payload.owner) d in
        let some : (n ≡ 0 → ⊥) = eqb-false n 0 e in
        (zero, omega arith, sym k, sym v, sym u, omega arith))
        (λ (d : Memᴰ s (stars_of ns ws os)). later (ih d))
        (Memᴰ.cases_cons m)

-- the star that place i holds
abbrev pub star_at : List ℕ → List ℕ → List ℕ → ℕ → Star
star_at ns ws os i = star_with (get_or ns i 0) (get_or ws i 0) (get_or os i 0)

pub at-star : (ns ws os : List ℕ) (i : ℕ) → i < length ns → i < length ws → i < length os → 1 ≤ get_or ns i 0 → Memᴰ (star_at ns ws os i) (stars_of ns ws os)
unfolding stars_of
at-star [] ws os i h k j g = absurd (omega arith)
at-star (n ∷ ns) [] os i h k j g = absurd (omega arith)
at-star (n ∷ ns) (w ∷ ws) [] i h k j g = absurd (omega arith)
at-star (n ∷ ns) (w ∷ ws) (o ∷ os) zero h k j g = rw (ne_eqb n 0 (λ z. omega (arith, z))) (Memᴰ.head refl)
at-star (n ∷ ns) (w ∷ ws) (o ∷ os) (suc i) h k j g = go (not (eqb n 0)) (at-star ns ws os i (omega arith) (omega arith) (omega arith) g)
  where
    go : (t : Bool) → Memᴰ (star_at ns ws os i) (stars_of ns ws os)
        → Memᴰ (star_at ns ws os i) (keep t (star_with n w o) (stars_of ns ws os))
    go true m = Memᴰ.tail m
    go false m = m

-- What the search finds.
pub star-held : (ok : ℕ → Bool) (ns ws os : List ℕ) (s : Star) → Even ns ws os → orderly ok 0 ns ws os ≡ true → Memᴰ s (stars_of ns ws os)
    → (held_at s.number ns ≡ true) × (get_or ws (place_of s.number ns) 0 ≡ s.payload.word) × (get_or os (place_of s.number ns) 0 ≡ s.payload.owner)
star-held ok ns ws os s l e m =
    let r = star-at ns ws os s m in
    let o : shape.orderly_numbers 0 ns ≡ true = orderly-numbers ok 0 ns ws os (omega arith) l e in
    let at : place_of s.number ns ≡ r.0 = place_is 0 s.number ns r.0 o r.5 r.1 r.2 in (
      held-at 0 s.number ns r.0 o r.5 r.1 r.2,
      ap (λ (i : ℕ). get_or ws i 0) at ∙ r.3,
      ap (λ (i : ℕ). get_or os i 0) at ∙ r.4,
    )

-- the star of number k, where the search finds it
abbrev pub star_for : List ℕ → List ℕ → List ℕ → ℕ → Star
star_for ns ws os k = star_with k (get_or ws (place_of k ns) 0) (get_or os (place_of k ns) 0)

pub held-star : (ns ws os : List ℕ) (k : ℕ) → Even ns ws os → 1 ≤ k → held_at k ns ≡ true → Memᴰ (star_for ns ws os k) (stars_of ns ws os)
held-star ns ws os k l h e =
    let r = held-there k ns e in
    Memᴰ.cast (λ i. star_with (sym r.1 i) (get_or ws (place_of k ns) 0) (get_or os (place_of k ns) 0))
    (at-star ns ws os (place_of k ns) r.0 (omega (arith, r.0, l.0)) (omega (arith, r.0, l.1)) (omega (arith, r.1)))

pub absent_held : (ok : ℕ → Bool) (ns ws os : List ℕ) (k : ℕ) → Even ns ws os → orderly ok 0 ns ws os ≡ true → held_at k ns ≡ false → Absent k (stars_of ns ws os)
absent_held ok ns ws os k l e none t m d = true≢false (sym (star-held ok ns ws os t l e m).0 ∙ ap (λ (n : ℕ). held_at n ns) d ∙ none)

pub held-absent : (ns ws os : List ℕ) (k : ℕ) → Even ns ws os → 1 ≤ k → Absent k (stars_of ns ws os) → held_at k ns ≡ false
held-absent ns ws os k l h none = go (held_at k ns) refl
  where
    go : (t : Bool) → held_at k ns ≡ t → held_at k ns ≡ false
    go true e = absurd (none (star_for ns ws os k) (held-star ns ws os k l h e) refl)
    go false e = e

module _ (ok : ℕ → Bool) (H : Hash) (M : ℕ) (t : List Star) (rising : Rising 0 t) (proper : Proper ok t) (fits : left H 0 M t ≡ []) where
  sizes : (q : ℕ) → q < M
      → Even (part H.room q (laid H.room H M t).numbers) (part H.room q (laid H.room H M t).words) (part H.room q (laid H.room H M t).owners)
  sizes q h =
      let n = length_part H.room q M (laid H.room H M t).numbers (sized-laid ok H M t proper).of_numbers h in
      let w = length_part H.room q M (laid H.room H M t).words (sized-laid ok H M t proper).of_words_lem h in
      let o = length_part H.room q M (laid H.room H M t).owners (sized-laid ok H M t proper).of_owners h in
      (n ∙ sym w, n ∙ sym o)

  -- A star of the list is on the page that its separators name.
  pub found_at : (s : Star) → Memᴰ s t
      → (first H 0 (laid H.room H M t).separators s.number < M)
      × Memᴰ s (stars_at H.room (laid H.room H M t) (first H 0 (laid H.room H M t).separators s.number))
  unfolding laid file_of
  found_at s m =
      let r = looked_up_lem H 0 M t s fits m in
      let at : first H 0 (separators (pages H 0 M t)) s.number ≡ r.0 = r.2 ∙ zero-add r.0 in
      (omega (arith, at, r.1), rw (at, stars_at-laid ok H M t proper r.0 r.1) r.3)

  pub found : (s : Star) (q : ℕ) → Memᴰ s t → first H 0 (laid H.room H M t).separators s.number ≡ q
      → (q < M) × (held_at s.number (part H.room q (laid H.room H M t).numbers) ≡ true)
      × (get_or (part H.room q (laid H.room H M t).words) (place_of s.number (part H.room q (laid H.room H M t).numbers)) 0 ≡ s.payload.word)
      × (get_or (part H.room q (laid H.room H M t).owners) (place_of s.number (part H.room q (laid H.room H M t).numbers)) 0 ≡ s.payload.owner)
  unfolding stars_at
  found s q m e = (inside, held.0, held.1, held.2)
    where
      inside : q < M
      inside = rw e at (found_at s m).0

      held : (held_at s.number (part H.room q (laid H.room H M t).numbers) ≡ true)
          × (get_or (part H.room q (laid H.room H M t).words) (place_of s.number (part H.room q (laid H.room H M t).numbers)) 0 ≡ s.payload.word)
          × (get_or (part H.room q (laid H.room H M t).owners) (place_of s.number (part H.room q (laid H.room H M t).numbers)) 0 ≡ s.payload.owner)
      held =
          star-held ok (part H.room q (laid H.room H M t).numbers) (part H.room q (laid H.room H M t).words) (part H.room q (laid H.room H M t).owners) s (sizes q inside)
          (sound-laid ok H M t rising proper q inside).in_order_lem (rw e at (found_at s m).1)

  -- A number that no star of the list has is on no page.
  pub missing : (k q : ℕ) → 1 ≤ k → Absent k t → q < M → held_at k (part H.room q (laid H.room H M t).numbers) ≡ false
  unfolding stars_at
  missing k q h none inside =
      held-absent (part H.room q (laid H.room H M t).numbers) (part H.room q (laid H.room H M t).words) (part H.room q (laid H.room H M t).owners) k (sizes q inside) h
      (λ s m. none s (page-member H 0 M q t inside s (rw (stars_at-laid ok H M t proper q inside) at m)))
