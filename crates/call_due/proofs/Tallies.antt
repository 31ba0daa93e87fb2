-- The loops that count stars, scan for the last one and fill a slice with one value.
use mathlib.Core.Path.{◌≡◌, refl, sym, ap, ◌∙◌}
use mathlib.Core.Bool.{Bool, true, false, cond}
use mathlib.Core.List.{List, [], ◌∷◌}
use Prim.Native.Nat.{ℕ, zero, suc, ◌+◌, ◌-◌, ◌≤◌, ◌<◌}
use native.Mathlib.Numerals.{add-one}
use native.Mathlib.Nat.{zero-add}
use native.Mathlib.Omega.{arith}
use lib.Dec.{eqb}
use lib.ListN.{length, get_or, take, drop, drop_of_length-le}
use lib.Seq.{drop-cons, drop-drop, drop-length, take-take, take-length}
use Rattle.std.proofs.lemmas.List.{drop-take}
use borrow.Author.Tests.{eqb-true, eq-eqb, ne_eqb}
use Rattle.calls.specs.Due.{stars}
use Rattle.call_due.specs.Used.{Blank}

-- `empty` zeros were met in the first i of the list: with the stars they are as many as i and the stars that follow
pub record Counted (l : List ℕ) (empty i : ℕ) : Type 0 where
  pub within : i ≤ length l
  pub few : empty ≤ i
  pub whole : stars l + empty ≡ i + stars (drop i l)

pub counted_none : (l : List ℕ) → Counted l 0 0
counted_none l = record { within = omega arith; few = omega arith; whole = omega arith }

module _ (l : List ℕ) (empty i : ℕ) (c : Counted l empty i) (h : i < length l) where
  pub counted-empty : get_or l i 0 ≡ 0 → Counted l (empty + 1) (i + 1)
  unfolding stars
  counted-empty e =
      let next : stars (drop i l) ≡ stars (drop (suc i) l) = rw (drop-cons l i 0 h, eq-eqb (get_or l i 0) 0 e) in
      record {
        within = omega arith;
        few = omega (arith, c.few);
        whole = rw (add-one i) (omega (arith, c.whole, next));
      }

  pub counted-star : (get_or l i 0 ≡ 0 → ⊥) → Counted l empty (i + 1)
  unfolding stars
  counted-star e =
      let next : stars (drop i l) ≡ suc (stars (drop (suc i) l)) = rw (drop-cons l i 0 h, ne_eqb (get_or l i 0) 0 e) in
      record {
        within = omega arith;
        few = omega (arith, c.few);
        whole = rw (add-one i) (omega (arith, c.whole, next));
      }

pub counted-all : (l : List ℕ) (empty i : ℕ) → Counted l empty i → length l ≤ i → length l - empty ≡ stars l
unfolding stars
counted-all l empty i c h = omega (arith, c.within, rw (drop_of_length-le l h) at c.whole)

pub stars-most : (l : List ℕ) → stars l ≤ length l
unfolding stars
stars-most [] = omega arith
stars-most (n ∷ ns) = go (eqb n 0) (stars-most ns)
  where
    go : (t : Bool) → stars ns ≤ length ns → cond t (stars ns) (suc (stars ns)) ≤ suc (length ns)
    go true h = omega arith
    go false h = omega arith

pub stars-split : (k : ℕ) (l : List ℕ) → stars l ≡ stars (take k l) + stars (drop k l)
unfolding stars
stars-split zero l = rw zero-add
stars-split (suc k) [] = refl
stars-split (suc k) (n ∷ ns) = go (eqb n 0) (stars-split k ns)
  where
    go : (t : Bool) → stars ns ≡ stars (take k ns) + stars (drop k ns)
        → cond t (stars ns) (suc (stars ns)) ≡ cond t (stars (take k ns)) (suc (stars (take k ns))) + stars (drop k ns)
    go true h = h
    go false h = omega arith

-- a list without stars has 0 everywhere
pub stars-none : (l : List ℕ) (i : ℕ) → stars l ≡ 0 → get_or l i 0 ≡ 0
unfolding stars
stars-none [] i e = refl
stars-none (n ∷ ns) i e = go (eqb n 0) refl i e (λ j h. stars-none ns j h)
  where
    go : (t : Bool) → eqb n 0 ≡ t → (i : ℕ) → cond t (stars ns) (suc (stars ns)) ≡ 0 → ((j : ℕ) → stars ns ≡ 0 → get_or ns j 0 ≡ 0) → get_or (n ∷ ns) i 0 ≡ 0
    go true q zero e more = eqb-true n 0 q
    go true q (suc i) e more = more i e
    go false q i e more = omega arith

-- the items up to `rest` ended
pub record Trimmed (l rest : List ℕ) : Type 0 where
  pub blank : Blank l (length rest)
  pub front : rest ≡ take (length rest) l

pub blank-all : (l : List ℕ) → Blank l (length l)
unfolding stars
blank-all l = record { within = omega arith; rest = rw drop-length }

module _ (l : List ℕ) (n : ℕ) (b : Blank l n) where
  -- the stars stand before item n
  pub blank-stars : stars l ≡ stars (take n l)
  blank-stars = omega (arith, stars-split n l, b.rest)

  pub blank-block : (start : ℕ) → start ≤ n → stars (take (n - start) (drop start l)) ≡ 0 → Blank l start
  blank-block start h e =
      let s : start + (n - start) ≡ n = omega arith in
      record {
        within = omega (arith, b.within);
        rest = omega (arith, rw (drop-drop (n - start) start l, s) at (stars-split (n - start) (drop start l)), b.rest);
      }

  pub blank-item : 0 < n → get_or l (n - 1) 0 ≡ 0 → Blank l (n - 1)
  unfolding stars
  blank-item h e =
      let s : suc (n - 1) ≡ n = omega arith in
      let m : n ≤ length l = b.within in
      record {
        within = omega arith;
        rest =
            rw (drop-cons l (n - 1) 0 (omega arith), eq-eqb (get_or l (n - 1) 0) 0 e)
            (ap (λ (k : ℕ). stars (drop k l)) s ∙ b.rest);
      }

pub trimmed-none : (l : List ℕ) → Trimmed l l
trimmed-none l = record { blank = blank-all l; front = sym (take-length l) }

pub trimmed-block : (l rest front : List ℕ) → Trimmed l rest → front ≡ take (length rest - 128) rest → length front + 128 ≡ length rest → stars (drop (length rest - 128) rest) ≡ 0
    → Trimmed l front
trimmed-block l rest front t e n z =
    let s : length rest - 128 ≡ length front = omega arith in
    let whole : length rest ≡ length front + 128 = sym n in
    let b : length rest - length front ≡ 128 = omega arith in
    record {
      blank =
          blank-block l (length rest) t.blank (length front) (omega arith)
          (rw b
          (ap stars (sym (drop-take (length front) 128 l) ∙ ap (λ (k : ℕ). drop (length front) (take k l)) n ∙ ap (λ (r : List ℕ). drop (length front) r) (sym t.front))
          ∙ ap (λ (k : ℕ). stars (drop k rest)) (sym s)
          ∙ z));
      front =
          e
          ∙ ap (λ (k : ℕ). take k rest) s
          ∙ ap (λ (r : List ℕ). take (length front) r) t.front
          ∙ take-take (length front) (length rest) l (omega arith);
    }
