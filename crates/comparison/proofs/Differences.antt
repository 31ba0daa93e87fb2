-- The search of the first spot at which two files differ: what is known at a place of a page.
use mathlib.Core.Path.{◌≡◌, ap}
use mathlib.Core.Bool.{Bool, true, false, not, or-true}
use Prim.Native.Nat.{ℕ, suc, ◌+◌, ◌*◌, ◌≤◌, ◌<◌}
use native.Mathlib.Nat.{zero-mul, zero-add, add-suc, suc-mul, mul-le-mul_right}
use native.Mathlib.Numerals.{add-one}
use native.Mathlib.Omega.{arith}
use lib.Dec.{eqb}
use lib.ListN.{get_or}
use borrow.Author.Tests.{lt-ltb, le-ltb, eq-eqb, ne_eqb}
use Rattle.placement.specs.File.{File}
use Rattle.reach.proofs.Search.{Sought, sought-none, sought-next, sought-found, sought-all}
use Rattle.calls.specs.Spots.{differ, differ_at, spot_in}
use Rattle.calls.proofs.Spots.{spot_page, spot_place, spot_within}

-- what differs at a place of a page
module _ (places : ℕ) (f l : File) (page place : ℕ) where
  pub number-differs : place < places → (get_or f.numbers (page * places + place) 0 ≡ get_or l.numbers (page * places + place) 0 → ⊥)
      → differ places f l page place ≡ true
  unfolding differ
  number-differs h e = rw (lt-ltb place places h, ne_eqb _ _ e)

  pub word-differs : place < places → (get_or f.words (page * places + place) 0 ≡ get_or l.words (page * places + place) 0 → ⊥)
      → differ places f l page place ≡ true
  unfolding differ
  word-differs h e =
      rw (lt-ltb place places h, ne_eqb (get_or f.words (page * places + place) 0) (get_or l.words (page * places + place) 0) e)
      (or-true (not (eqb (get_or f.numbers (page * places + place) 0) (get_or l.numbers (page * places + place) 0))))

  pub owner_differs : place < places → (get_or f.owners (page * places + place) 0 ≡ get_or l.owners (page * places + place) 0 → ⊥)
      → differ places f l page place ≡ true
  unfolding differ
  owner_differs h e =
      rw (
        lt-ltb place places h,
        ne_eqb (get_or f.owners (page * places + place) 0) (get_or l.owners (page * places + place) 0) e,
        or-true (not (eqb (get_or f.words (page * places + place) 0) (get_or l.words (page * places + place) 0))),
      )
      (or-true (not (eqb (get_or f.numbers (page * places + place) 0) (get_or l.numbers (page * places + place) 0))))

  pub place_same : place < places → get_or f.numbers (page * places + place) 0 ≡ get_or l.numbers (page * places + place) 0
      → get_or f.words (page * places + place) 0 ≡ get_or l.words (page * places + place) 0
      → get_or f.owners (page * places + place) 0 ≡ get_or l.owners (page * places + place) 0 → differ places f l page place ≡ false
  unfolding differ
  place_same h en ew eo =
      rw (
        lt-ltb place places h,
        eq-eqb (get_or f.numbers (page * places + place) 0) (get_or l.numbers (page * places + place) 0) en,
        eq-eqb (get_or f.words (page * places + place) 0) (get_or l.words (page * places + place) 0) ew,
        eq-eqb (get_or f.owners (page * places + place) 0) (get_or l.owners (page * places + place) 0) eo,
      )

  pub separator_differs : places ≤ place → (get_or f.separators page 0 ≡ get_or l.separators page 0 → ⊥) → differ places f l page place ≡ true
  unfolding differ
  separator_differs h e = rw (le-ltb place places h, ne_eqb (get_or f.separators page 0) (get_or l.separators page 0) e)

  pub separator_same : places ≤ place → get_or f.separators page 0 ≡ get_or l.separators page 0 → differ places f l page place ≡ false
  unfolding differ
  separator_same h e = rw (le-ltb place places h, eq-eqb (get_or f.separators page 0) (get_or l.separators page 0) e)

-- nothing differs before this spot
pub record Compared (count places : ℕ) (f l : File) (page place : ℕ) : Type 0 where
  pub pages : page ≤ count
  pub within : place ≤ places
  pub sought : Sought (differ_at places f l) 0 (count * suc places) (page * suc places + place)

pub compared-none : (count places : ℕ) (f l : File) → Compared count places f l 0 0
compared-none count places f l =
    record {
      pages = omega arith;
      within = omega arith;
      sought =
          let e : 0 * suc places + 0 ≡ 0 = omega (arith, zero-mul (suc places)) in
          rw e (sought-none (differ_at places f l) 0 (count * suc places));
    }

module _ (count places : ℕ) (f l : File) (page place : ℕ) (c : Compared count places f l page place) where
  at-spot : (t : Bool) → differ places f l page place ≡ t → differ_at places f l (page * suc places + place) ≡ t
  at-spot t e = rw (spot_page places page place c.within, spot_place places page place c.within) e

  pub compared-found : page < count → differ places f l page place ≡ true → page * suc places + place ≡ spot_in count places f l
  compared-found h e =
      sought-found (differ_at places f l) 0 (count * suc places) (page * suc places + place) c.sought
      (rw (zero-add (count * suc places)) (spot_within count places page place h c.within)) (at-spot true e)

  onward : page < count → differ places f l page place ≡ false → Sought (differ_at places f l) 0 (count * suc places) (suc (page * suc places + place))
  onward h e =
      sought-next (differ_at places f l) 0 (count * suc places) (page * suc places + place) c.sought
      (rw (zero-add (count * suc places)) (spot_within count places page place h c.within)) (at-spot false e)

  pub compared-place : page < count → place < places → differ places f l page place ≡ false → Compared count places f l page (place + 1)
  compared-place h k e =
      record {
        pages = c.pages;
        within = omega arith;
        sought = rw (add-one place, add-suc (page * suc places) place) (onward h e);
      }

  pub compared-page : page < count → places ≤ place → differ places f l page place ≡ false → Compared count places f l (page + 1) 0
  compared-page h k e =
      record {
        pages = omega arith;
        within = omega arith;
        sought =
            let next : (page + 1) * suc places + 0 ≡ suc (page * suc places + place) = omega (arith, ap (λ (n : ℕ). n * suc places) (add-one page), suc-mul page (suc places), c.within) in
            rw next (onward h e);
      }

  pub compared-all : count ≤ page → place ≡ 0 → page * suc places + place ≡ spot_in count places f l
  compared-all h e =
      sought-all (differ_at places f l) 0 (count * suc places) (page * suc places + place) c.sought
      (omega (arith, mul-le-mul_right (suc places) h))
