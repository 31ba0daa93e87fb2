-- The model's stars: their order, who is among them, and what setting and striking do to them.
use mathlib.Core.Path.{◌≡◌, refl, sym, ap, ◌∙◌}
use mathlib.Core.Bool.{Bool, true, false, not, cond}
use mathlib.Core.List.Memᴰ
use mathlib.Core.List.{List, [], ◌∷◌, Memᴰ}
use mathlib.Core.Logic.{⊎_elim}
use mathlib.Core.Option.{none, some}
use Prim.Native.Nat.{ℕ, suc, ◌≤◌}
use native.Mathlib.Omega.{arith}
use lib.Dec.{leb, ltb, eqb}
use borrow.Author.Tests.{eqb-true, le-leb, lt-leb, eqb-false}
use Rattle.pages.specs.declared.position.Position.{Position}
use Rattle.pages.specs.Position.{valid_number, valid_word, packed}
use Rattle.pages.proofs.Words.{pack-valid}
use Rattle.placement.specs.Rule.{Star, keep, filter, insert, without, star_with}
use Rattle.placement.specs.Shape.{reworded, changed}
use Rattle.placement.proofs.Order.{Rising, Absent, rising-member}
use Rattle.placement.proofs.Change.{changed-absent}
use Rattle.histories.specs.Model.{Entry, set_position, strike, held_position, held_owner, entry_stars}
use Rattle.histories.proofs.Compared.{Compared, lower, equal, higher, compared}
use Rattle.histories.proofs.Entries.{Ordered, position-low}

abbrev pub star_of : ℕ → Position → ℕ → Star
star_of k q owner = star_with k (packed q) owner

pub stars-rise : (low : ℕ) (es : List Entry) → Ordered low es → Rising low (entry_stars es)
unfolding entry_stars
stars-rise low [] o = tt
stars-rise low (e ∷ es) o = (o.0, stars-rise (suc e.number) es o.2)

-- Every star has a valid number and a valid word.
pub record ValidStar (s : Star) : Type 0 where
  pub number : valid_number s.number ≡ true
  pub word : valid_word s.payload.word ≡ true

pub stars-valid : (low : ℕ) (es : List Entry) → Ordered low es → (s : Star) → Memᴰ s (entry_stars es) → ValidStar s
unfolding entry_stars
stars-valid low [] o s m = absurd (Memᴰ.not-nil m)
stars-valid low (e ∷ es) o s m =
    ⊎_elim
    (λ (h : s ≡ star_of e.number e.position e.owner). rw h (record { number = o.1.number; word = pack-valid e.position o.1.position }))
    (λ n. stars-valid (suc e.number) es o.2 s n)
    (Memᴰ.cases_cons m)

-- A number with a position has a star; one without has none.
pub held-star : (k : ℕ) (q : Position) (es : List Entry) → held_position k es ≡ some q → Memᴰ (star_of k q (held_owner k es)) (entry_stars es)
unfolding entry_stars held_position held_owner
held-star k q [] h = let z : ◌≡◌ {A = ℕ} 0 1 = cc in absurd (omega arith)
held-star k q (e ∷ es) h = go (eqb e.number k) refl h (held-star k q es)
  where
    go : (t : Bool) → eqb e.number k ≡ t → cond t (some e.position) (held_position k es) ≡ some q
        → (held_position k es ≡ some q → Memᴰ (star_of k q (held_owner k es)) (entry_stars es))
        → Memᴰ (star_of k q (cond t e.owner (held_owner k es))) (star_of e.number e.position e.owner ∷ entry_stars es)
    go true u h ih =
        let n : e.number ≡ k = eqb-true e.number k u in
        let p : e.position ≡ q = cc in
        Memᴰ.head (λ i. star_with (sym n i) (packed (sym p i)) e.owner)
    go false u h ih = Memᴰ.tail (ih h)

pub no_star : (k : ℕ) (es : List Entry) → held_position k es ≡ none → Absent k (entry_stars es)
unfolding entry_stars held_position
no_star k [] h t m g = Memᴰ.not-nil m
no_star k (e ∷ es) h t m g = go (eqb e.number k) refl h (λ f n. no_star k es f t n g)
  where
    go : (b : Bool) → eqb e.number k ≡ b → cond b (some e.position) (held_position k es) ≡ none
        → (held_position k es ≡ none → Memᴰ t (entry_stars es) → ⊥) → ⊥
    go true u h ih = let z : ◌≡◌ {A = ℕ} 0 1 = cc in omega arith
    go false u h ih =
        ⊎_elim (λ (f : t ≡ star_of e.number e.position e.owner). eqb-false e.number k u (sym (ap (λ (s : Star). s.number) f) ∙ g)) (ih h) (Memᴰ.cases_cons m)

-- Setting the position of a number not held inserts its star.
pub stars-enter : (caller k : ℕ) (q : Position) (es : List Entry) → held_position k es ≡ none → entry_stars (set_position caller k q es) ≡ insert (star_of k q caller) (entry_stars es)
unfolding entry_stars set_position insert held_position
stars-enter caller k q [] h = refl
stars-enter caller k q (e ∷ es) h = go (compared e.number k) (λ f. stars-enter caller k q es f)
  where
    go : Compared e.number k → (held_position k es ≡ none → entry_stars (set_position caller k q es) ≡ insert (star_of k q caller) (entry_stars es))
        → entry_stars (cond (ltb e.number k) (e ∷ set_position caller k q es) (cond (eqb e.number k) (record { number = k; position = q; owner = e.owner } ∷ es) (record { number = k; position = q; owner = caller } ∷ e ∷ es)))
        ≡ cond (leb k e.number) (star_of k q caller ∷ entry_stars (e ∷ es)) (star_of e.number e.position e.owner ∷ insert (star_of k q caller) (entry_stars es))
    go (lower g t u) ih = rw (t, lt-leb k e.number g, ih (rw u at h))
    go (equal g t u) ih = let z : ◌≡◌ {A = ℕ} 0 1 = cc (rw u at h) in absurd (omega arith)
    go (higher g t u) ih = rw (t, u, le-leb k e.number (omega arith))

-- Setting the position of a number held gives its star another word.
pub stars-change : (low caller k : ℕ) (q r : Position) (es : List Entry) → Ordered low es → held_position k es ≡ some r
    → entry_stars (set_position caller k q es) ≡ changed k (packed q) (entry_stars es)
unfolding entry_stars set_position held_position changed reworded
stars-change low caller k q r [] o h = let z : ◌≡◌ {A = ℕ} 0 1 = cc in absurd (omega arith)
stars-change low caller k q r (e ∷ es) o h = go (compared e.number k) (λ f. stars-change (suc e.number) caller k q r es o.2 f)
  where
    above : k ≤ e.number → Absent k (entry_stars es)
    above g t m d = omega (arith, rising-member (suc e.number) (entry_stars es) (stars-rise (suc e.number) es o.2) t m)

    go : Compared e.number k → (held_position k es ≡ some r → entry_stars (set_position caller k q es) ≡ changed k (packed q) (entry_stars es))
        → entry_stars (cond (ltb e.number k) (e ∷ set_position caller k q es) (cond (eqb e.number k) (record { number = k; position = q; owner = e.owner } ∷ es) (record { number = k; position = q; owner = caller } ∷ e ∷ es)))
        ≡ reworded k (packed q) (star_of e.number e.position e.owner) ∷ changed k (packed q) (entry_stars es)
    go (lower g t u) ih = rw (t, u, ih (rw u at h))
    go (equal g t u) ih =
        rw (t, u, changed-absent k (packed q) (entry_stars es) (above (omega arith))) (ap (λ (n : ℕ). star_of n q e.owner ∷ entry_stars es) (sym g))
    go (higher g t u) ih =
        let z : ◌≡◌ {A = ℕ} 0 1 = cc (rw u at h, position-low (suc e.number) k es o.2 (omega arith)) in absurd (omega arith)

-- Striking a number takes its star away.
pub stars-strike : (k : ℕ) (es : List Entry) → entry_stars (strike k es) ≡ without k (entry_stars es)
unfolding entry_stars strike without filter
stars-strike k [] = refl
stars-strike k (e ∷ es) = go (eqb e.number k) (stars-strike k es)
  where
    go : (t : Bool) → entry_stars (filter (λ (d : Entry). not (eqb d.number k)) es) ≡ filter (λ (s : Star). not (eqb s.number k)) (entry_stars es)
        → entry_stars (keep (not t) e (filter (λ (d : Entry). not (eqb d.number k)) es))
        ≡ keep (not t) (star_of e.number e.position e.owner) (filter (λ (s : Star). not (eqb s.number k)) (entry_stars es))
    go true ih = ih
    go false ih = rw ih
