-- Who stands where: the separators alone determine it.
use mathlib.Core.Path.{◌≡◌, refl, sym, ap, ◌∙◌}
use mathlib.Core.Bool.{Bool, true, false, not, cond, ◌&&◌}
use mathlib.Core.List.Memᴰ
use mathlib.Core.List.{List, [], ◌∷◌, ◌++◌, Memᴰ}
use Prim.Native.Nat.{ℕ, zero, suc, ◌+◌, ◌-◌, ◌≤◌, ◌<◌}
use native.Mathlib.Nat.{suc-add, add-suc, add-zero, le_refl}
use native.Mathlib.Decide.{dec_lt}
use native.Mathlib.Omega.{arith}
use lib.Dec.{eqb}
use lib.ListN.{length, get_or, take, drop, length-map}
use borrow.Author.Tests.{leb-false, eqb-true, eq-eqb, ne_eqb}
use Rattle.placement.specs.Rule.{Star, Hash, Contents, filter, below, staying, passing, separator_of, contents_of, onward, pages, left, first, separators}
use Rattle.placement.specs.Shape.{blank}
use Rattle.placement.proofs.Filters.{filter-ext, filter-all, filter-filter, member_filter, filter-member}
use Rattle.placement.proofs.Separator.{Bounded, stays, below_top, below-home}
use Rattle.placement.proofs.Composition.{length-pages}

pub length-separators : (cs : List Contents) → length (separators cs) ≡ length cs
unfolding separators
length-separators cs = length-map cs (λ (c : Contents). c.separator)

pub first-ge : (H : Hash) (p : ℕ) (vs : List ℕ) (k : ℕ) → p ≤ first H p vs k
unfolding first
first-ge H p [] k = le_refl p
first-ge H p (v ∷ vs) k = go (below H p v k) (first-ge H (suc p) vs k)
  where
    go : (t : Bool) → suc p ≤ first H (suc p) vs k → p ≤ cond t p (first H (suc p) vs k)
    go true ih = le_refl p
    go false ih = omega arith

pub first-le : (H : Hash) (p : ℕ) (vs : List ℕ) (k : ℕ) → first H p vs k ≤ p + length vs
unfolding first
first-le H p [] k = omega arith
first-le H p (v ∷ vs) k = go (below H p v k) (first-le H (suc p) vs k)
  where
    go : (t : Bool) → first H (suc p) vs k ≤ suc p + length vs → cond t p (first H (suc p) vs k) ≤ p + suc (length vs)
    go true ih = omega arith
    go false ih = omega arith

-- A page that stands is at home or above it.
pub first_home : (H : Hash) (p : ℕ) (vs : List ℕ) (k : ℕ) → first H p vs k < p + length vs → H.home k ≤ first H p vs k
unfolding first
first_home H p [] k h = absurd (omega arith)
first_home H p (v ∷ vs) k h = go (below H p v k) refl (first_home H (suc p) vs k) h
  where
    go : (t : Bool) → below H p v k ≡ t → (first H (suc p) vs k < suc p + length vs → H.home k ≤ first H (suc p) vs k)
        → cond t p (first H (suc p) vs k) < p + suc (length vs) → H.home k ≤ cond t p (first H (suc p) vs k)
    go true e ih h = below-home H p v k e
    go false e ih h = ih (omega arith)

-- The test that a star's first page is q.
abbrev pub stands_at : Hash → ℕ → List ℕ → ℕ → Star → Bool
stands_at H p vs q s = eqb (first H p vs s.number) q

-- The first page's stars, and those of the pages after it.
pub stands_here : (H : Hash) (p v : ℕ) (vs : List ℕ) (w : List Star) → filter (stands_at H p (v ∷ vs) p) w ≡ staying H p v w
unfolding first staying
stands_here H p v vs w = filter-ext (stands_at H p (v ∷ vs) p) (stays H p v) (λ s. go s (below H p v s.number)) w
  where
    go : (s : Star) (t : Bool) → eqb (cond t p (first H (suc p) vs s.number)) p ≡ t
    go s true = eq-eqb p p refl
    go s false = ne_eqb (first H (suc p) vs s.number) p (λ g. omega (arith, g, first-ge H (suc p) vs s.number))

pub stands-later : (H : Hash) (p v q : ℕ) (vs : List ℕ) (w : List Star) → p < q
    → filter (stands_at H p (v ∷ vs) q) w ≡ filter (stands_at H (suc p) vs q) (passing H p v w)
unfolding first passing
stands-later H p v q vs w h =
    filter-ext (stands_at H p (v ∷ vs) q) (λ (s : Star). not (stays H p v s) && stands_at H (suc p) vs q s) (λ s. go s (below H p v s.number)) w
    ∙ sym (filter-filter (stands_at H (suc p) vs q) (λ (s : Star). not (stays H p v s)) w)
  where
    go : (s : Star) (t : Bool) → eqb (cond t p (first H (suc p) vs s.number)) q ≡ not t && eqb (first H (suc p) vs s.number) q
    go s true = ne_eqb p q (λ g. omega (arith, g))
    go s false = refl

-- The stars of page p + i are those whose first page it is.
pub page-first : (H : Hash) (p n i : ℕ) (w : List Star) → i < n
    → (get_or (pages H p n w) i blank).stars ≡ filter (stands_at H p (separators (pages H p n w)) (p + i)) w
unfolding pages separators onward contents_of
page-first H p zero i w h = absurd (omega arith)
page-first H p (suc n) zero w h = rw (add-zero p) (sym (stands_here H p (separator_of H p w) (separators (pages H (suc p) n (onward H p w))) w))
page-first H p (suc n) (suc i) w h =
    rw (add-suc p i)
    ((rw (suc-add p i) at (page-first H (suc p) n i (onward H p w) (omega arith)))
    ∙ sym (stands-later H p (separator_of H p w) (suc (p + i)) (separators (pages H (suc p) n (onward H p w))) w (omega arith)))

-- Those left have no page.
pub left-first : (H : Hash) (p n : ℕ) (w : List Star) → left H p n w ≡ filter (stands_at H p (separators (pages H p n w)) (p + n)) w
unfolding pages left separators first onward contents_of
left-first H p zero w = sym (filter-all (stands_at H p [] (p + 0)) (λ s. eq-eqb p (p + 0) (omega arith)) w)
left-first H p (suc n) w =
    rw (add-suc p n)
    ((rw (suc-add p n) at (left-first H (suc p) n (onward H p w)))
    ∙ sym (stands-later H p (separator_of H p w) (suc (p + n)) (separators (pages H (suc p) n (onward H p w))) w (omega arith)))

abbrev pub first_in : Hash → ℕ → ℕ → List Star → ℕ → ℕ
first_in H p n w k = first H p (separators (pages H p n w)) k

-- A star stands on a page exactly if that is its first page.
pub stands : (H : Hash) (p n i : ℕ) (w : List Star) (s : Star) → i < n → Memᴰ s w → first_in H p n w s.number ≡ p + i
    → Memᴰ s (get_or (pages H p n w) i blank).stars
stands H p n i w s h m e =
    rw (page-first H p n i w h)
    (filter-member (stands_at H p (separators (pages H p n w)) (p + i)) w s m (eq-eqb (first_in H p n w s.number) (p + i) e))

pub stands-first : (H : Hash) (p n i : ℕ) (w : List Star) (s : Star) → i < n → Memᴰ s (get_or (pages H p n w) i blank).stars
    → Memᴰ s w × (first_in H p n w s.number ≡ p + i)
stands-first H p n i w s h m = (found.0, eqb-true (first_in H p n w s.number) (p + i) found.1)
  where
    found : Memᴰ s w × (stands_at H p (separators (pages H p n w)) (p + i) s ≡ true)
    found = member_filter (stands_at H p (separators (pages H p n w)) (p + i)) w s (rw (page-first H p n i w h) at m)

-- No star stands on two pages.
pub one_place : (H : Hash) (p n i j : ℕ) (w : List Star) (s t : Star) → i < n → j < n → s.number ≡ t.number
    → Memᴰ s (get_or (pages H p n w) i blank).stars → Memᴰ t (get_or (pages H p n w) j blank).stars → i ≡ j
one_place H p n i j w s t hi hj e ms mt =
    omega (arith, (stands-first H p n i w s hi ms).1, (stands-first H p n j w t hj mt).1, ap (first_in H p n w) e)

-- With nothing left, a star stands on the page that `first` names.
pub looked_up_lem : (H : Hash) (p n : ℕ) (w : List Star) (s : Star) → left H p n w ≡ [] → Memᴰ s w
    → (i : ℕ) × (i < n) × (first_in H p n w s.number ≡ p + i) × Memᴰ s (get_or (pages H p n w) i blank).stars
looked_up_lem H p n w s e m = (i, inside, at, stands H p n i w s inside m at)
  where
    q : ℕ
    q = first_in H p n w s.number

    i : ℕ
    i = q - p

    bound : q ≤ p + n
    bound = rw (length-separators (pages H p n w), length-pages H p n w) at (first-le H p (separators (pages H p n w)) s.number)

    low : p ≤ q
    low = first-ge H p (separators (pages H p n w)) s.number

    not_end : q ≡ p + n → ⊥
    not_end g =
        Memᴰ.not-nil
        (rw e at (rw (← left-first H p n w) at (filter-member (stands_at H p (separators (pages H p n w)) (p + n)) w s m (eq-eqb q (p + n) g))))

    inside : i < n
    inside = go (dec_lt q (p + n))
      where
        go : Dec (q < p + n) → i < n
        go (yes h) = omega (arith, low)
        go (no h) = absurd (not_end (omega (arith, bound)))

    at : q ≡ p + i
    at = omega (arith, low)

pub first-later : (H : Hash) (p i : ℕ) (vs : List ℕ) (k : ℕ) → i ≤ length vs → p + i ≤ first H p vs k → first H (p + i) (drop i vs) k ≡ first H p vs k
unfolding first
first-later H p zero vs k h g = rw (add-zero p)
first-later H p (suc i) [] k h g = absurd (omega arith)
first-later H p (suc i) (v ∷ vs) k h g = go (below H p v k) (first-later H (suc p) i vs k (omega arith)) g
  where
    go : (t : Bool) → (suc p + i ≤ first H (suc p) vs k → first H (suc p + i) (drop i vs) k ≡ first H (suc p) vs k)
        → p + suc i ≤ cond t p (first H (suc p) vs k) → first H (p + suc i) (drop i vs) k ≡ cond t p (first H (suc p) vs k)
    go true ih g = absurd (omega arith)
    go false ih g = rw (add-suc p i) (rw (suc-add p i) at (ih (omega arith)))

-- The search may start at home.
pub first-home-on : (H : Hash) (p i : ℕ) (vs : List ℕ) (k : ℕ) → i ≤ length vs → p + i ≤ H.home k → first H (p + i) (drop i vs) k ≡ first H p vs k
first-home-on H p i vs k h g = first-later H p i vs k h (go (dec_lt (first H p vs k) (p + length vs)))
  where
    go : Dec (first H p vs k < p + length vs) → p + i ≤ first H p vs k
    go (yes d) = omega (arith, first_home H p vs k d)
    go (no d) = omega arith

pub first-within : (H : Hash) (p n : ℕ) (vs : List ℕ) (k : ℕ) → first H p vs k < p + n → first H p (take n vs) k ≡ first H p vs k
unfolding first
first-within H p zero vs k h = absurd (omega (arith, first-ge H p vs k))
first-within H p (suc n) [] k h = refl
first-within H p (suc n) (v ∷ vs) k h = go (below H p v k) (first-within H (suc p) n vs k) h
  where
    go : (t : Bool) → (first H (suc p) vs k < suc p + n → first H (suc p) (take n vs) k ≡ first H (suc p) vs k)
        → cond t p (first H (suc p) vs k) < p + suc n → cond t p (first H (suc p) (take n vs) k) ≡ cond t p (first H (suc p) vs k)
    go true ih h = refl
    go false ih h = ih (omega arith)

-- More separators behind do not matter to a star that stands before them.
pub first-append : (H : Hash) (p : ℕ) (us vs : List ℕ) (k : ℕ) → first H p us k < p + length us → first H p (us ++ vs) k ≡ first H p us k
unfolding first
first-append H p [] vs k h = absurd (omega (arith, add-zero p))
first-append H p (u ∷ us) vs k h = go (below H p u k) (first-append H (suc p) us vs k) h
  where
    go : (t : Bool) → (first H (suc p) us k < suc p + length us → first H (suc p) (us ++ vs) k ≡ first H (suc p) us k)
        → cond t p (first H (suc p) us k) < p + suc (length us) → cond t p (first H (suc p) (us ++ vs) k) ≡ cond t p (first H (suc p) us k)
    go true ih h = refl
    go false ih h = ih (omega arith)

-- What `first` says of its page, of the pages before it, and that this determines it.
pub first_below : (H : Hash) (p i : ℕ) (vs : List ℕ) (k : ℕ) → i < length vs → first H p vs k ≡ p + i → below H (p + i) (get_or vs i 0) k ≡ true
unfolding first
first_below H p i [] k h e = absurd (omega arith)
first_below H p zero (v ∷ vs) k h e = rw (add-zero p) (go (below H p v k) e)
  where
    go : (t : Bool) → cond t p (first H (suc p) vs k) ≡ p + 0 → t ≡ true
    go true e = refl
    go false e = absurd (omega (arith, first-ge H (suc p) vs k))
first_below H p (suc i) (v ∷ vs) k h e = rw (add-suc p i) (go (below H p v k) (first_below H (suc p) i vs k (omega arith)) e)
  where
    go : (t : Bool) → (first H (suc p) vs k ≡ suc p + i → below H (suc p + i) (get_or vs i 0) k ≡ true)
        → cond t p (first H (suc p) vs k) ≡ p + suc i → below H (suc (p + i)) (get_or vs i 0) k ≡ true
    go true ih e = absurd (omega arith)
    go false ih e = rw (suc-add p i) at (ih (omega arith))

pub first-before : (H : Hash) (p i : ℕ) (vs : List ℕ) (k : ℕ) → i < length vs → p + i < first H p vs k → below H (p + i) (get_or vs i 0) k ≡ false
unfolding first
first-before H p i [] k h e = absurd (omega arith)
first-before H p zero (v ∷ vs) k h e = rw (add-zero p) (go (below H p v k) e)
  where
    go : (t : Bool) → p + 0 < cond t p (first H (suc p) vs k) → t ≡ false
    go true e = absurd (omega arith)
    go false e = refl
first-before H p (suc i) (v ∷ vs) k h e = rw (add-suc p i) (go (below H p v k) (first-before H (suc p) i vs k (omega arith)) e)
  where
    go : (t : Bool) → (suc p + i < first H (suc p) vs k → below H (suc p + i) (get_or vs i 0) k ≡ false)
        → p + suc i < cond t p (first H (suc p) vs k) → below H (suc (p + i)) (get_or vs i 0) k ≡ false
    go true ih e = absurd (omega arith)
    go false ih e = rw (suc-add p i) at (ih (omega arith))

-- Stars past a page whose separator is top are homed above it.
pub past_top : (H : Hash) → Bounded H → (p i : ℕ) (vs : List ℕ) (k : ℕ) → i < length vs → get_or vs i 0 ≡ H.top → p + i < first H p vs k → p + i < H.home k
past_top H b p i vs k h e g = leb-false (H.home k) (p + i) (sym (below_top H b (p + i) k) ∙ (rw e at (first-before H p i vs k h g)))
