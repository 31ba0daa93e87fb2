-- The page that holds the new star is the page that the new separators name.
use mathlib.Core.Path.{◌≡◌, refl, sym, ap, ◌∙◌}
use mathlib.Core.Bool.{Bool, true, false, not, cond, ◌&&◌, ◌||◌, true≢false}
use mathlib.Core.List.{List, [], ◌∷◌, ◌++◌}
use Prim.Native.Nat.{ℕ, zero, suc, ◌+◌, ◌≤◌, ◌<◌}
use native.Mathlib.Nat.{add-zero, zero-add, add-suc, suc-add}
use native.Mathlib.Omega.{arith}
use lib.Dec.{leb, eqb}
use lib.ListN.{length, take, drop}
use borrow.Author.Tests.{eqb-true}
use Rattle.placement.specs.Rule.{Star, Hash, Contents, keep, filter, below, staying, passing, insert, pour, first, separators}
use Rattle.placement.specs.File.{File, stars_at, written}
use Rattle.placement.proofs.Standing.{first-append}
use Rattle.reach.specs.Reach.{has_number, holding}
use Rattle.reach.specs.Cascade.{meeting, lowered, pushed_to, pushed_on, cascaded, carried_past}

-- a number in a list

has_filter : (q : ℕ → Bool) (k : ℕ) (l : List Star) → has_number k (filter (λ (s : Star). q s.number) l) ≡ q k && has_number k l
unfolding has_number filter
has_filter q k [] = and-false (q k)
  where
    and-false : (t : Bool) → false ≡ t && false
    and-false true = refl
    and-false false = refl
has_filter q k (s ∷ l) = go (eqb s.number k) refl (has_filter q k l)
  where
    go : (t : Bool) → eqb s.number k ≡ t → has_number k (filter (λ (x : Star). q x.number) l) ≡ q k && has_number k l
        → has_number k (keep (q s.number) s (filter (λ (x : Star). q x.number) l)) ≡ q k && (t || has_number k l)
    go true e ih = here (q k) (ap q (eqb-true s.number k e)) ih
      where
        here : (u : Bool) → q s.number ≡ u → has_number k (filter (λ (x : Star). q x.number) l) ≡ u && has_number k l
            → has_number k (keep (q s.number) s (filter (λ (x : Star). q x.number) l)) ≡ u && true
        here true d ih = rw (d, e)
        here false d ih = rw d ih
    go false e ih = there (q s.number) ih
      where
        there : (u : Bool) → has_number k (filter (λ (x : Star). q x.number) l) ≡ q k && has_number k l
            → has_number k (keep u s (filter (λ (x : Star). q x.number) l)) ≡ q k && has_number k l
        there true ih = rw e ih
        there false ih = ih

has_insert : (k : ℕ) (s : Star) (l : List Star) → has_number k l ≡ true → has_number k (insert s l) ≡ true
unfolding has_number insert
has_insert k s [] e = absurd (true≢false (sym e))
has_insert k s (t ∷ l) e = go (leb s.number t.number) (has_insert k s l)
  where
    or-true : (b : Bool) → b || true ≡ true
    or-true true = refl
    or-true false = refl

    later : (b c : Bool) → (has_number k l ≡ true → c ≡ true) → b || has_number k l ≡ true → b || c ≡ true
    later true c f e = refl
    later false c f e = f e

    go : (b : Bool) → (has_number k l ≡ true → has_number k (insert s l) ≡ true) → has_number k (cond b (s ∷ t ∷ l) (t ∷ insert s l)) ≡ true
    go true ih = ap (λ (b : Bool). eqb s.number k || b) e ∙ or-true (eqb s.number k)
    go false ih = later (eqb t.number k) (has_number k (insert s l)) ih e

has_pour : (k : ℕ) (xs l : List Star) → has_number k l ≡ true → has_number k (pour xs l) ≡ true
unfolding pour
has_pour k [] l e = e
has_pour k (x ∷ xs) l e = has_insert k x (pour xs l) (has_pour k xs l e)

-- a cascade that carries nothing past its pages

module _ (H : Hash) (f : File) (k : ℕ) where
  -- whether the number stays on the page, or is carried on
  stays_on : (p : ℕ) (w : List Star) → has_number k w ≡ true
      → (has_number k (pushed_to H f p w).stars ≡ below H p (pushed_to H f p w).separator k) × (has_number k (pushed_on H f p w) ≡ not (below H p (pushed_to H f p w).separator k))
  unfolding pushed_to pushed_on staying passing meeting
  stays_on p w e =
      let there : has_number k (meeting H f p w) ≡ true = has_pour k (stars_at H.room f p) w e in (
        has_filter (below H p (lowered H f p w)) k (meeting H f p w) ∙ rw there (and-true (below H p (lowered H f p w) k)),
        has_filter (λ (n : ℕ). not (below H p (lowered H f p w) n)) k (meeting H f p w) ∙ rw there (and-true (not (below H p (lowered H f p w) k))),
      )
    where
      and-true : (b : Bool) → b && true ≡ b
      and-true true = refl
      and-true false = refl

  pub held_first : (p n : ℕ) (w : List Star) → has_number k w ≡ true → carried_past H f p n w ≡ []
      → (holding k p (cascaded H f p n w) ≡ first H p (separators (cascaded H f p n w)) k)
      × (first H p (separators (cascaded H f p n w)) k < p + length (cascaded H f p n w))
  unfolding cascaded carried_past holding first separators
  held_first p zero w e none = absurd (true≢false (sym e ∙ ap (has_number k) none ∙ (unfold has_number in refl)))
  held_first p (suc n) [] e none = absurd (true≢false (sym e ∙ (unfold has_number in refl)))
  held_first p (suc n) (s ∷ w) e none = go (below H p (pushed_to H f p (s ∷ w)).separator k) (stays_on p (s ∷ w) e) (held_first (suc p) n (pushed_on H f p (s ∷ w)))
    where
      rest : List Contents
      rest = cascaded H f (suc p) n (pushed_on H f p (s ∷ w))

      go : (t : Bool) → (has_number k (pushed_to H f p (s ∷ w)).stars ≡ t) × (has_number k (pushed_on H f p (s ∷ w)) ≡ not t)
          → (has_number k (pushed_on H f p (s ∷ w)) ≡ true → carried_past H f (suc p) n (pushed_on H f p (s ∷ w)) ≡ []
          → (holding k (suc p) rest ≡ first H (suc p) (separators rest) k) × (first H (suc p) (separators rest) k < suc p + length rest))
          → (cond (has_number k (pushed_to H f p (s ∷ w)).stars) p (holding k (suc p) rest) ≡ cond t p (first H (suc p) (separators rest) k))
          × (cond t p (first H (suc p) (separators rest) k) < p + suc (length rest))
      go true h ih = (rw h.0, omega arith)
      go false h ih = let r = ih h.1 none in (rw h.0 r.0, omega (arith, r.1))

-- written into the separators

-- the pages before the first one named may stay or go
first-over : (H : Hash) (p n : ℕ) (us vs : List ℕ) (k : ℕ) → n ≤ length us → p + n ≤ first H p us k → first H p (take n us ++ vs) k ≡ first H (p + n) vs k
unfolding first
first-over H p zero us vs k h g = rw (add-zero p)
first-over H p (suc n) [] vs k h g = absurd (omega arith)
first-over H p (suc n) (u ∷ us) vs k h g = go (below H p u k) (first-over H (suc p) n us vs k (omega arith)) g
  where
    go : (t : Bool) → (suc p + n ≤ first H (suc p) us k → first H (suc p) (take n us ++ vs) k ≡ first H (suc p + n) vs k)
        → p + suc n ≤ cond t p (first H (suc p) us k) → cond t p (first H (suc p) (take n us ++ vs) k) ≡ first H (p + suc n) vs k
    go true ih g = absurd (omega arith)
    go false ih g = rw (add-suc p n) (rw (suc-add p n) at (ih (omega arith)))

pub first-written : (H : Hash) (page k : ℕ) (vs us : List ℕ) → page ≤ length us → page ≤ first H 0 us k → first H page vs k < page + length vs
    → first H 0 (written page vs us) k ≡ first H page vs k
unfolding written
first-written H page k vs us h g inside =
    first-over H 0 page us (vs ++ drop (page + length vs) us) k h (omega arith)
    ∙ ap (λ (q : ℕ). first H q (vs ++ drop (page + length vs) us) k) (zero-add page)
    ∙ first-append H page vs (drop (page + length vs) us) k inside
