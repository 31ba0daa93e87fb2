-- The pages in use: how many hold a star; and when growth is due beside document 01's rule.
use mathlib.Core.Path.{◌≡◌, refl, ap}
use mathlib.Core.Bool.{Bool, true, false, cond}
use mathlib.Core.List.{List}
use Prim.Native.Nat.{ℕ, zero, suc, ◌+◌, ◌*◌, ◌≤◌, ◌<◌, max}
use native.Mathlib.Nat.{mul-le-mul_left, max-eq_left, le-max_left, max-le}
use native.Mathlib.Decide.{dec_le, dec_lt}
use native.Mathlib.Omega.{arith}
use lib.Dec.{eqb}
use borrow.Author.Tests.{eq-eqb, eqb-true, ltb-true, lt-ltb}
use Rattle.hashing.specs.declared.Parameters.{Parameters}
use Rattle.hashing.specs.declared.Growth.{Growth}
use Rattle.hashing.specs.Geometry.{highest}
use Rattle.pages.specs.Page.{part}
use Rattle.calls.specs.Due.{stars, pages_holding, pages_in_use, exceeds, is_due}
use Rattle.calls.specs.Shape.{is_due_addressed}

module _ (places : ℕ) (numbers : List ℕ) where
  -- no further than the pages that hold none, and past each that holds one
  pub holding-most : (n top : ℕ) → ((page : ℕ) → top ≤ page → page < n → stars (part places page numbers) ≡ 0) → pages_holding places numbers n ≤ top
  unfolding pages_holding
  holding-most zero top none = omega arith
  holding-most (suc n) top none = go (dec_le top n) (holding-most n top (λ page a b. none page a (omega arith)))
    where
      go : Dec (top ≤ n) → pages_holding places numbers n ≤ top → cond (eqb (stars (part places n numbers)) 0) (pages_holding places numbers n) (suc n) ≤ top
      go (yes h) less = rw (eq-eqb (stars (part places n numbers)) 0 (none n h (omega arith))) less
      go (no h) less = elim (eqb (stars (part places n numbers)) 0) as (λ t. cond t (pages_holding places numbers n) (suc n) ≤ top) [ true ↦ less | false ↦ omega arith ]

  pub holding-least : (n page : ℕ) → page < n → (stars (part places page numbers) ≡ 0 → ⊥) → page < pages_holding places numbers n
  unfolding pages_holding
  holding-least zero page h some = omega arith
  holding-least (suc n) page h some = go (dec_lt page n) (eqb (stars (part places n numbers)) 0) refl (λ l. holding-least n page l some)
    where
      go : Dec (page < n) → (t : Bool) → eqb (stars (part places n numbers)) 0 ≡ t → (page < n → page < pages_holding places numbers n) → page < cond t (pages_holding places numbers n) (suc n)
      go (yes l) true e below = below l
      go (no l) true e below =
          let same : n ≡ page = omega arith in
          absurd (some (rw same at (eqb-true (stars (part places n numbers)) 0 e)))
      go d false e below = omega arith

module _ (p : Parameters) (g : Growth) (numbers : List ℕ) where
  pub in_use_most : highest p g + 1 ≤ p.pages → pages_in_use p g numbers ≤ p.pages
  unfolding pages_in_use
  in_use_most h = max-le h (holding-most p.places numbers p.pages p.pages (λ page a b. omega arith))

  -- growth is due no earlier than by document 01
  pub due_no_earlier : is_due p g numbers ≡ true → is_due_addressed p g numbers ≡ true
  unfolding is_due is_due_addressed exceeds pages_in_use
  due_no_earlier e =
      let held = pages_holding p.places numbers p.pages in
      lt-ltb (p.load * p.places * (highest p g + 1)) (100 * stars numbers)
      (omega (
        arith,
        ltb-true (p.load * p.places * max (highest p g + 1) held) (100 * stars numbers) e,
        mul-le-mul_left (p.load * p.places) (le-max_left (highest p g + 1) held),
      ))

  -- where every star stands at or below the highest address, growth is due as by document 01
  pub due_as_addressed : ((page : ℕ) → highest p g < page → page < p.pages → stars (part p.places page numbers) ≡ 0) → is_due p g numbers ≡ is_due_addressed p g numbers
  unfolding is_due is_due_addressed pages_in_use
  due_as_addressed none =
      ap (λ (n : ℕ). exceeds p n (stars numbers))
      (max-eq_left (holding-most p.places numbers p.pages (highest p g + 1) (λ page a b. none page (omega arith) b)))
