-- Lists of the same items, and pages that do not change.
use mathlib.Core.Path.{◌≡◌, refl, sym, ap, ◌∙◌}
use mathlib.Core.Bool.{Bool, true, false, not, ◌&&◌}
use mathlib.Core.List.{List, [], ◌∷◌}
use Prim.Native.Nat.{ℕ, ◌+◌, ◌-◌, ◌≤◌}
use native.Mathlib.Omega.{arith}
use lib.Dec.{eqb}
use lib.ListN.{length, take, drop, length-drop}
use lib.Seq.{length-take-le}
use Rattle.std.specs.List.{fold, zip}
use borrow.Author.Tests.{not-true, not-false}
use Rattle.buffers.proofs.Lists.{alike_self, alike_same}
use Rattle.buffers.specs.Lists.{alike}
use Rattle.buffers.proofs.Tests.{and-true}
use Rattle.pages.specs.Page.{part}
use Rattle.page_store.specs.Columns.{Columns}
use Rattle.page_store.specs.Stores.{columns_change}

and_assoc : (s t u : Bool) → s && (t && u) ≡ (s && t) && u
and_assoc true t u = refl
and_assoc false t u = refl

-- items compared pair by pair, with what was found before them
folded : (same : Bool) (k l : List ℕ) → length k ≡ length l → fold (λ (s : Bool) (p : ℕ × ℕ). s && eqb p.0 p.1) same (zip k l) ≡ same && alike k l
unfolding alike
folded true [] [] e = refl
folded false [] [] e = refl
folded same [] (y ∷ ys) e = absurd (omega (arith, e))
folded same (x ∷ xs) [] e = absurd (omega (arith, e))
folded same (x ∷ xs) (y ∷ ys) e = folded (same && eqb x y) xs ys (omega (arith, e)) ∙ sym (and_assoc same (eqb x y) (alike xs ys))

-- two parts of one place and size
pub same-alike : (at items : ℕ) (k l : List ℕ) → at + items ≤ length k → at + items ≤ length l
    → fold (λ (s : Bool) (p : ℕ × ℕ). s && eqb p.0 p.1) true (zip (take (at + items - at) (drop at k)) (take (at + items - at) (drop at l)))
    ≡ alike (take items (drop at k)) (take items (drop at l))
same-alike at items k l h g =
    let size : at + items - at ≡ items = omega arith in
    rw size (folded true (take items (drop at k)) (take items (drop at l)) (length-take-le items (drop at k) (rw (length-drop at k) (omega arith)) ∙ sym (length-take-le items (drop at l) (rw (length-drop at l) (omega arith)))))

-- A page on which two sets of columns agree.
pub record SamePage (b : ℕ) (old new : Columns) (r : ℕ) : Type 0 where
  pub numbers : part b r old.numbers ≡ part b r new.numbers
  pub words : part b r old.words ≡ part b r new.words
  pub owners : part b r old.owners ≡ part b r new.owners

pub unchanged-same : (b : ℕ) (old new : Columns) (r : ℕ) → columns_change b old new r ≡ false → SamePage b old new r
unfolding columns_change
unchanged-same b old new r e =
    let one = and-true _ _ (not-false _ e) in
    let two = and-true _ _ one.1 in
    record { numbers = alike_same _ _ one.0; words = alike_same _ _ two.0; owners = alike_same _ _ two.1 }

pub same-unchanged : (b : ℕ) (old new : Columns) (r : ℕ) → SamePage b old new r → columns_change b old new r ≡ false
unfolding columns_change
same-unchanged b old new r s =
    rw (s.numbers, s.words, s.owners, alike_self (part b r new.numbers), alike_self (part b r new.words)) (ap not (alike_self (part b r new.owners)))

-- Whether a page changes is told from that page alone.
pub changes-alike : (b : ℕ) (cur old new : Columns) (r : ℕ) → SamePage b cur old r → columns_change b cur new r ≡ columns_change b old new r
unfolding columns_change
changes-alike b cur old new r s = rw (s.numbers, s.words, s.owners)

-- The test of a page, column by column: `numbers`, `words` and `owners` say whether the columns agree there.
module _ (b : ℕ) (old new : Columns) (r : ℕ) where
  pub numbers_differ : (numbers : Bool) → numbers ≡ alike (part b r old.numbers) (part b r new.numbers) → not numbers ≡ true → true ≡ columns_change b old new r
  unfolding columns_change
  numbers_differ numbers e d = rw (← e, not-true numbers d)

  pub words-differ : (numbers words : Bool) → numbers ≡ alike (part b r old.numbers) (part b r new.numbers) → words ≡ alike (part b r old.words) (part b r new.words)
      → not numbers ≡ false → not words ≡ true → true ≡ columns_change b old new r
  unfolding columns_change
  words-differ numbers words e f s d = rw (← e, ← f, not-false numbers s, not-true words d)

  pub owners_differ : (numbers words owners : Bool) → numbers ≡ alike (part b r old.numbers) (part b r new.numbers) → words ≡ alike (part b r old.words) (part b r new.words)
      → owners ≡ alike (part b r old.owners) (part b r new.owners)
      → not numbers ≡ false → not words ≡ false → not owners ≡ columns_change b old new r
  unfolding columns_change
  owners_differ numbers words owners e f g s t = rw (← e, ← f, ← g, not-false numbers s, not-false words t)
