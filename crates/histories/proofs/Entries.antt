-- Laws of the model's entries: setting and striking keep them in order, what they do to positions, and that positions determine them.
use mathlib.Core.Path.{◌≡◌, refl, sym, ap, ◌∙◌}
use mathlib.Core.Bool.{Bool, true, false, not, cond}
use mathlib.Core.List.{List, [], ◌∷◌}
use mathlib.Core.Option.{none, some}
use Prim.Native.Nat.{ℕ, suc, ◌≤◌, ◌<◌}
use native.Mathlib.Nat.{le_refl}
use native.Mathlib.Omega.{arith}
use lib.Dec.{ltb, eqb}
use borrow.Author.Tests.{eqb-true, eq-eqb, ne_eqb}
use Rattle.pages.specs.declared.position.Position.{Position}
use Rattle.pages.specs.Position.{valid_number, valid_position}
use Rattle.placement.specs.Rule.{keep, filter}
use Rattle.histories.specs.Model.{Entry, set_position, strike, held_position, held_entry}
use Rattle.histories.proofs.Compared.{Compared, lower, equal, higher, compared}

-- a valid number and a valid position
pub record ValidEntry (k : ℕ) (q : Position) : Type 0 where
  pub number : valid_number k ≡ true
  pub position : valid_position q ≡ true

-- valid entries, each number once, in rising order from `low` on
abbrev pub Ordered : ℕ → List Entry → Type 0
Ordered low [] = Unit {0}
Ordered low (e ∷ es) = (low ≤ e.number) × ValidEntry e.number e.position × Ordered (suc e.number) es

pub ordered-from : (j k : ℕ) (es : List Entry) → j ≤ k → Ordered k es → Ordered j es
ordered-from j k [] h o = tt
ordered-from j k (e ∷ es) h o = (omega arith, o.1, o.2)

pub ordered-set : (low caller k : ℕ) (q : Position) (es : List Entry) → low ≤ k → ValidEntry k q → Ordered low es → Ordered low (set_position caller k q es)
unfolding set_position
ordered-set low caller k q [] h v o = (h, v, tt)
ordered-set low caller k q (e ∷ es) h v o = go (compared e.number k) (λ g. ordered-set (suc e.number) caller k q es g v o.2)
  where
    go : Compared e.number k → (e.number < k → Ordered (suc e.number) (set_position caller k q es))
        → Ordered low (cond (ltb e.number k) (e ∷ set_position caller k q es) (cond (eqb e.number k) (record { number = k; position = q; owner = e.owner } ∷ es) (record { number = k; position = q; owner = caller } ∷ e ∷ es)))
    go (lower g t u) ih = rw t (o.0, o.1, ih g)
    go (equal g t u) ih = rw (t, u) (h, v, ordered-from (suc k) (suc e.number) es (omega arith) o.2)
    go (higher g t u) ih = rw (t, u) (h, v, (g, o.1, o.2))

pub ordered-strike : (low k : ℕ) (es : List Entry) → Ordered low es → Ordered low (strike k es)
unfolding strike filter
ordered-strike low k [] o = tt
ordered-strike low k (e ∷ es) o = go (eqb e.number k) (ordered-strike (suc e.number) k es o.2)
  where
    go : (t : Bool) → Ordered (suc e.number) (filter (λ (d : Entry). not (eqb d.number k)) es)
        → Ordered low (keep (not t) e (filter (λ (d : Entry). not (eqb d.number k)) es))
    go true ih = ordered-from low (suc e.number) (filter (λ (d : Entry). not (eqb d.number k)) es) (omega (arith, o.0)) ih
    go false ih = (o.0, o.1, ih)

-- An accepted entry or change "sets the number's position", and no other.
pub position-set : (caller k : ℕ) (q : Position) (es : List Entry) → held_position k (set_position caller k q es) ≡ some q
unfolding set_position held_position
position-set caller k q [] = rw (eq-eqb k k refl)
position-set caller k q (e ∷ es) = go (compared e.number k) (position-set caller k q es)
  where
    go : Compared e.number k → held_position k (set_position caller k q es) ≡ some q
        → held_position k (cond (ltb e.number k) (e ∷ set_position caller k q es) (cond (eqb e.number k) (record { number = k; position = q; owner = e.owner } ∷ es) (record { number = k; position = q; owner = caller } ∷ e ∷ es))) ≡ some q
    go (lower g t u) ih = rw (t, u) ih
    go (equal g t u) ih = rw (t, u, eq-eqb k k refl)
    go (higher g t u) ih = rw (t, u, eq-eqb k k refl)

pub position-set-other : (caller j k : ℕ) (q : Position) (es : List Entry) → (j ≡ k → ⊥) → held_position j (set_position caller k q es) ≡ held_position j es
unfolding set_position held_position
position-set-other caller j k q [] h = rw (ne_eqb k j (λ e. h (sym e)))
position-set-other caller j k q (e ∷ es) h = go (compared e.number k) (position-set-other caller j k q es h)
  where
    other : eqb k j ≡ false
    other = ne_eqb k j (λ e. h (sym e))

    go : Compared e.number k → held_position j (set_position caller k q es) ≡ held_position j es
        → held_position j (cond (ltb e.number k) (e ∷ set_position caller k q es) (cond (eqb e.number k) (record { number = k; position = q; owner = e.owner } ∷ es) (record { number = k; position = q; owner = caller } ∷ e ∷ es))) ≡ held_position j (e ∷ es)
    go (lower g t u) ih = rw (t, ih)
    go (equal g t u) ih = rw (t, u, other, ne_eqb e.number j (λ d. h (sym d ∙ g)))
    go (higher g t u) ih = rw (t, u, other)

-- An accepted removal "strikes the number out", and no other.
pub position-strike : (k : ℕ) (es : List Entry) → held_position k (strike k es) ≡ none
unfolding strike filter held_position
position-strike k [] = refl
position-strike k (e ∷ es) = go (eqb e.number k) refl (position-strike k es)
  where
    go : (t : Bool) → eqb e.number k ≡ t → held_position k (filter (λ (d : Entry). not (eqb d.number k)) es) ≡ none
        → held_position k (keep (not t) e (filter (λ (d : Entry). not (eqb d.number k)) es)) ≡ none
    go true u ih = ih
    go false u ih = rw (u, ih)

pub position-strike-other : (j k : ℕ) (es : List Entry) → (j ≡ k → ⊥) → held_position j (strike k es) ≡ held_position j es
unfolding strike filter held_position
position-strike-other j k [] h = refl
position-strike-other j k (e ∷ es) h = go (eqb e.number k) refl (position-strike-other j k es h)
  where
    go : (t : Bool) → eqb e.number k ≡ t → held_position j (filter (λ (d : Entry). not (eqb d.number k)) es) ≡ held_position j es
        → held_position j (keep (not t) e (filter (λ (d : Entry). not (eqb d.number k)) es)) ≡ cond (eqb e.number j) (some e.position) (held_position j es)
    go true u ih = rw (ne_eqb e.number j (λ d. h (sym d ∙ eqb-true e.number k u)), ih)
    go false u ih = rw ih

-- A number below all has no position.
pub position-low : (low k : ℕ) (es : List Entry) → Ordered low es → k < low → held_position k es ≡ none
unfolding held_position
position-low low k [] o h = refl
position-low low k (e ∷ es) o h =
    rw (ne_eqb e.number k (λ d. omega (arith, o.0))) (position-low (suc e.number) k es o.2 (omega (arith, o.0)))

-- A number with a position is valid, and so is the position.
pub position-valid : (low k : ℕ) (q : Position) (es : List Entry) → Ordered low es → held_position k es ≡ some q → ValidEntry k q
unfolding held_position
position-valid low k q [] o h = let z : ◌≡◌ {A = ℕ} 0 1 = cc in absurd (omega arith)
position-valid low k q (e ∷ es) o h = go (eqb e.number k) refl h (position-valid (suc e.number) k q es o.2)
  where
    go : (t : Bool) → eqb e.number k ≡ t → cond t (some e.position) (held_position k es) ≡ some q
        → (held_position k es ≡ some q → ValidEntry k q) → ValidEntry k q
    go true u h ih =
        let r : e.position ≡ q = cc in
        record { number = rw (eqb-true e.number k u) at o.1.number; position = rw r at o.1.position }
    go false u h ih = ih h

-- A number below all has no entry.
entry-low : (low k : ℕ) (es : List Entry) → Ordered low es → k < low → held_entry k es ≡ none
unfolding held_entry
entry-low low k [] o h = refl
entry-low low k (e ∷ es) o h =
    rw (ne_eqb e.number k (λ d. omega (arith, o.0))) (entry-low (suc e.number) k es o.2 (omega (arith, o.0)))

entry-head : (e : Entry) (es : List Entry) → held_entry e.number (e ∷ es) ≡ some e
unfolding held_entry
entry-head e es = rw (eq-eqb e.number e.number refl)

entry-tail : (k : ℕ) (e : Entry) (es : List Entry) → (e.number ≡ k → ⊥) → held_entry k (e ∷ es) ≡ held_entry k es
unfolding held_entry
entry-tail k e es h = rw (ne_eqb e.number k h)

-- The entries are determined by which one, if any, they have for each number.
module _ (d e : Entry) (ds es : List Entry) (h : (k : ℕ) → held_entry k (d ∷ ds) ≡ held_entry k (e ∷ es)) where
  not_lower : Ordered e.number (e ∷ es) → d.number < e.number → ⊥
  not_lower r g =
      let z : ◌≡◌ {A = ℕ} 0 1 = cc (h d.number, entry-head d ds, entry-low e.number d.number (e ∷ es) r g) in omega arith

  same_head : d.number ≡ e.number → d ≡ e
  same_head g =
      let p : some d ≡ some e = sym (entry-head d ds) ∙ h d.number ∙ ap (λ (k : ℕ). held_entry k (e ∷ es)) g ∙ entry-head e es in
      cc

  same-tail : (low : ℕ) → d.number < low → d.number ≡ e.number → Ordered low ds → Ordered low es → (k : ℕ) → held_entry k ds ≡ held_entry k es
  same-tail low l g o r k = go (compared d.number k)
    where
      apart : (d.number ≡ k → ⊥) → held_entry k ds ≡ held_entry k es
      apart f = sym (entry-tail k d ds f) ∙ h k ∙ entry-tail k e es (λ c. f (g ∙ c))

      go : Compared d.number k → held_entry k ds ≡ held_entry k es
      go (lower a t u) = apart (λ c. omega arith)
      go (equal a t u) = entry-low low k ds o (omega arith) ∙ sym (entry-low low k es r (omega arith))
      go (higher a t u) = apart (λ c. omega arith)

pub determined : (low : ℕ) (ds es : List Entry) → Ordered low ds → Ordered low es → ((k : ℕ) → held_entry k ds ≡ held_entry k es) → ds ≡ es
unfolding held_entry
determined low [] [] o r h = refl
determined low [] (e ∷ es) o r h =
    let z : ◌≡◌ {A = ℕ} 0 1 = cc (h e.number, entry-head e es) in absurd (omega arith)
determined low (d ∷ ds) [] o r h =
    let z : ◌≡◌ {A = ℕ} 0 1 = cc (h d.number, entry-head d ds) in absurd (omega arith)
determined low (d ∷ ds) (e ∷ es) o r h = go (compared d.number e.number) (λ t f. determined (suc d.number) ds es o.2 t f)
  where
    go : Compared d.number e.number → (Ordered (suc d.number) es → ((k : ℕ) → held_entry k ds ≡ held_entry k es) → ds ≡ es) → d ∷ ds ≡ e ∷ es
    go (lower g t u) ih = absurd (not_lower d e ds es h (le_refl e.number, r.1, r.2) g)
    go (equal g t u) ih =
        let after : Ordered (suc d.number) es = rw g r.2 in
        ap (λ (c : Entry). c ∷ ds) (same_head d e ds es h g)
        ∙ ap (λ (cs : List Entry). e ∷ cs) (ih after (same-tail d e ds es h (suc d.number) (omega arith) g o.2 after))
    go (higher g t u) ih = absurd (not_lower e d es ds (λ k. sym (h k)) (le_refl d.number, o.1, o.2) g)

-- Setting a number's own position changes nothing.
pub set_same : (low caller k : ℕ) (q : Position) (es : List Entry) → Ordered low es → held_position k es ≡ some q → set_position caller k q es ≡ es
unfolding set_position held_position
set_same low caller k q [] o h = let z : ◌≡◌ {A = ℕ} 0 1 = cc in absurd (omega arith)
set_same low caller k q (e ∷ es) o h = go (compared e.number k) (λ f. set_same (suc e.number) caller k q es o.2 f)
  where
    go : Compared e.number k → (held_position k es ≡ some q → set_position caller k q es ≡ es)
        → cond (ltb e.number k) (e ∷ set_position caller k q es) (cond (eqb e.number k) (record { number = k; position = q; owner = e.owner } ∷ es) (record { number = k; position = q; owner = caller } ∷ e ∷ es)) ≡ e ∷ es
    go (lower g t u) ih = rw (t, ih (rw u at h))
    go (equal g t u) ih =
        let same : some e.position ≡ some q = rw u at h in
        let p : e.position ≡ q = cc in
        rw (t, u) (λ i. record { number = sym g i; position = sym p i; owner = e.owner } ∷ es)
    go (higher g t u) ih =
        let z : ◌≡◌ {A = ℕ} 0 1 = cc (rw u at h, position-low (suc e.number) k es o.2 (omega arith)) in absurd (omega arith)
