-- Items one by one: whether they are valid.
use mathlib.Core.Path.{◌≡◌, refl, sym, ◌∙◌}
use mathlib.Core.Bool.{Bool, true, false, cond, ◌&&◌, false≢true}
use mathlib.Core.List.{List, [], ◌∷◌}
use Prim.Native.Nat.{ℕ, zero, suc, ◌+◌, ◌^◌, ◌≤◌, ◌<◌}
use native.Mathlib.Omega.{arith}
use native.Mathlib.Numerals.{add-one}
use lib.Dec.{eqb, leb}
use lib.ListN.{length, get_or, drop}
use lib.Seq.{drop-cons}
use borrow.Author.Tests.{eqb-true, leb-true}
use Rattle.buffers.proofs.Tests.{and-true}
use Rattle.pages.specs.Position.{valid_number, valid_word}
use Rattle.calls.specs.Mend.{valid_item, valid_items}

-- The items before i are valid.
pub record Valid (ns ws os : List ℕ) (i : ℕ) : Type 0 where
  pub rest : valid_items ns ws os ≡ valid_items (drop i ns) (drop i ws) (drop i os)

module _ (ns ws os : List ℕ) (i : ℕ) (C : Valid ns ws os i) (ew : length ws ≡ length ns) (eo : length os ≡ length ns) (h : i < length ns) where
  split : valid_items ns ws os ≡ valid_item (get_or ns i 0) (get_or ws i 0) (get_or os i 0) && valid_items (drop (suc i) ns) (drop (suc i) ws) (drop (suc i) os)
  unfolding valid_items
  split = C.rest ∙ rw (drop-cons ns i 0 h, drop-cons ws i 0 (omega arith), drop-cons os i 0 (omega arith))

  pub valid-fails : valid_item (get_or ns i 0) (get_or ws i 0) (get_or os i 0) ≡ false → false ≡ valid_items ns ws os
  valid-fails e = sym (split ∙ rw e)

  pub valid-next : valid_item (get_or ns i 0) (get_or ws i 0) (get_or os i 0) ≡ true → Valid ns ws os (i + 1)
  valid-next e = record { rest = split ∙ rw (e, add-one i) }

pub valid-all : (ns ws os : List ℕ) (i : ℕ) → Valid ns ws os i → length ns ≤ i → true ≡ valid_items ns ws os
valid-all ns ws os i C h = sym (C.rest ∙ none (drop i ns) (lib.ListN.drop_of_length-le ns h))
  where
    none : (l : List ℕ) → l ≡ [] → valid_items l (drop i ws) (drop i os) ≡ true
    none l e = rw e (unfold valid_items in refl)

-- a valid item's number has 31 bits
valid-number : (n w o : ℕ) → valid_item n w o ≡ true → n < 2 ^ 31
unfolding valid_item valid_number
valid-number n w o = go (eqb n 0) refl
  where
    go : (t : Bool) → eqb n 0 ≡ t → cond t (eqb w 0 && eqb o 0) (valid_number n && valid_word w) ≡ true → n < 2 ^ 31
    go true e v = omega (arith, eqb-true n 0 e)
    go false e v =
        let a = and-true (leb 1 n && leb n 2147483646) (valid_word w) v in
        let b = and-true (leb 1 n) (leb n 2147483646) a.0 in
        omega (arith, leb-true n 2147483646 b.1)

pub numbers_small : (ns ws os : List ℕ) → valid_items ns ws os ≡ true → (i : ℕ) → i < length ns → get_or ns i 0 < 2 ^ 31
unfolding valid_items
numbers_small [] ws os v i h = absurd (omega arith)
numbers_small (n ∷ ns) [] os v i h = absurd (false≢true v)
numbers_small (n ∷ ns) (w ∷ ws) [] v i h = absurd (false≢true v)
numbers_small (n ∷ ns) (w ∷ ws) (o ∷ os) v zero h = valid-number n w o (and-true (valid_item n w o) (valid_items ns ws os) v).0
numbers_small (n ∷ ns) (w ∷ ws) (o ∷ os) v (suc i) h = numbers_small ns ws os (and-true (valid_item n w o) (valid_items ns ws os) v).1 i (omega arith)
