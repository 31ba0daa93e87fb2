-- Where a star is put into a page's stars and where one is taken out, as the search has it.
use mathlib.Core.Path.{◌≡◌, refl, ap}
use mathlib.Core.Bool.{Bool, true, false, not, cond}
use mathlib.Core.List.Memᴰ
use mathlib.Core.List.{List, [], ◌∷◌, ◌++◌, map}
use Prim.Native.Nat.{ℕ, zero, suc, ◌+◌, ◌≤◌, ◌<◌}
use native.Mathlib.Omega.{arith}
use lib.Dec.{leb, eqb}
use lib.ListN.{length, get_or, replicate}
use borrow.Author.Tests.{eq-eqb, ne_eqb}
use Rattle.pages.specs.Page.{place_of}
use Rattle.placement.specs.Rule.{Star, filter, insert, without}
use Rattle.placement.proofs.Filters.{filter-all-on}
use Rattle.placement.proofs.Order.{Rising, rising-member}
use Rattle.placement.proofs.Pages.{Numbered}
use Rattle.placement.proofs.Files.{number_of}

-- the numbers of these stars, with z empty places behind
abbrev pub numbered : List Star → ℕ → List ℕ
numbered l z = map number_of l ++ replicate z 0

-- one list is the other with s at place i
pub record Split (s : Star) (less more : List Star) (i : ℕ) : Type 0 where
  pub front : List Star
  pub back : List Star
  pub is_less : less ≡ front ++ back
  pub is_more : more ≡ front ++ (s ∷ back)
  pub at : length front ≡ i

split-first : (s : Star) (l : List Star) → Split s l (s ∷ l) 0
split-first s l = record { front = []; back = l; is_less = refl; is_more = refl; at = refl }

split-later : (s t : Star) (less more : List Star) (i : ℕ) → Split s less more i → Split s (t ∷ less) (t ∷ more) (suc i)
split-later s t less more i r =
    record {
      front = t ∷ r.front;
      back = r.back;
      is_less = ap (λ (l : List Star). t ∷ l) r.is_less;
      is_more = ap (λ (l : List Star). t ∷ l) r.is_more;
      at = ap suc r.at;
    }

-- a star is inserted where its search ends
pub insert-split : (s : Star) (l : List Star) (z : ℕ) → Numbered l → Split s l (insert s l) (place_of s.number (numbered l z))
unfolding insert place_of
insert-split s [] zero h = split-first s []
insert-split s [] (suc z) h = split-first s []
insert-split s (t ∷ l) z h =
    rw (ne_eqb t.number 0 (λ e. omega (arith, e, h t (Memᴰ.head refl))))
    (go (leb s.number t.number) (insert-split s l z (λ u m. h u (Memᴰ.tail m))))
  where
    go : (b : Bool) → Split s l (insert s l) (place_of s.number (numbered l z))
        → Split s (t ∷ l) (cond b (s ∷ t ∷ l) (t ∷ insert s l)) (cond b 0 (suc (place_of s.number (numbered l z))))
    go true ih = split-first s (t ∷ l)
    go false ih = split-later s t l (insert s l) (place_of s.number (numbered l z)) ih

empty-at : (z i : ℕ) → get_or {A = ℕ} (replicate z 0) i 0 ≡ 0
empty-at zero i = refl
empty-at (suc z) zero = refl
empty-at (suc z) (suc i) = empty-at z i

-- a number that stands there is none of the lower ones
rising-item : (j : ℕ) (l : List Star) (z i : ℕ) → Rising j l → 0 < get_or (numbered l z) i 0 → j ≤ get_or (numbered l z) i 0
rising-item j [] z i r h = absurd (omega (arith, empty-at z i))
rising-item j (t ∷ l) z zero r h = r.0
rising-item j (t ∷ l) z (suc i) r h = omega (arith, r.0, rising-item (suc t.number) l z i r.1 h)

-- the star at place i taken out by its number
pub without-split : (j : ℕ) (l : List Star) (z i : ℕ) → Rising j l → 0 < get_or (numbered l z) i 0
    → (s : Star) × Split s (without (get_or (numbered l z) i 0) l) l i
unfolding without filter
without-split j [] z i r h = absurd (omega (arith, empty-at z i))
without-split j (t ∷ l) z zero r h =
    (t, rw (eq-eqb t.number t.number refl, others) (split-first t l))
  where
    others : filter (λ (s : Star). not (eqb s.number t.number)) l ≡ l
    others = filter-all-on (λ (s : Star). not (eqb s.number t.number)) l (λ s m. ap not (ne_eqb s.number t.number (λ e. omega (arith, e, rising-member (suc t.number) l r.1 s m))))
without-split j (t ∷ l) z (suc i) r h =
    let ih = without-split (suc t.number) l z i r.1 h in (
      ih.0,
      rw (ne_eqb t.number (get_or (numbered l z) i 0) (λ e. omega (arith, e, rising-item (suc t.number) l z i r.1 h)))
          (split-later ih.0 t (without (get_or (numbered l z) i 0) l) l i ih.1),
    )

-- a last place that is empty is none of a star's
pub room-left : (l : List Star) (z j : ℕ) → Numbered l → suc j ≡ length l + z → get_or (numbered l z) j 0 ≡ 0 → 0 < z
room-left [] z j h e g = omega arith
room-left (t ∷ l) z zero h e g = absurd (omega (arith, g, h t (Memᴰ.head refl)))
room-left (t ∷ l) z (suc j) h e g = room-left l z j (λ u m. h u (Memᴰ.tail m)) (omega arith) g
