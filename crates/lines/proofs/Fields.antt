-- The first field of a line and the fields after it.
use Prim.Native.Nat.{ℕ, zero, suc, ◌+◌, ◌-◌, ◌<◌, ◌≤◌}
use native.Mathlib.Decide.{dec_lt}
use native.Mathlib.Omega.{arith}
use mathlib.Core.Bool.{Bool, true, false, cond}
use mathlib.Core.List.{List, [], ◌∷◌}
use mathlib.Core.Path.{◌≡◌, refl}
use borrow.Author.Tests.{eq-eqb, ne_eqb}
use lib.Dec.{eqb}
use lib.ListN.{length, take, drop, get_or, length-drop}
use lib.Seq.{drop-cons, take_all}
use Rattle.lines.specs.Grammar.{fields, in_first}
use Rattle.lines.specs.Shape.{field_length}

pub field-within : (l : List ℕ) → field_length l ≤ length l
unfolding field_length
field-within [] = omega arith
field-within (c ∷ l) = go (eqb c 32) (field-within l)
  where
    go : (t : Bool) → field_length l ≤ length l → cond t zero (suc (field_length l)) ≤ suc (length l)
    go true h = omega arith
    go false h = omega arith

pub fields-last : (l : List ℕ) → field_length l ≡ length l → fields l ≡ l ∷ []
unfolding fields in_first field_length
fields-last [] e = refl
fields-last (c ∷ l) e = go (eqb c 32) e (fields-last l)
  where
    go :
        (t : Bool) → cond t zero (suc (field_length l)) ≡ suc (length l) → (field_length l ≡ length l → fields l ≡ l ∷ []) →
        cond t ([] ∷ fields l) (in_first c (fields l)) ≡ (c ∷ l) ∷ []
    go true h rest = absurd (omega arith)
    go false h rest = rw (rest (omega arith))

pub fields-more :
    (l : List ℕ) → field_length l < length l → fields l ≡ take (field_length l) l ∷ fields (drop (suc (field_length l)) l)
unfolding fields in_first field_length
fields-more [] h = absurd (omega arith)
fields-more (c ∷ l) h = go (eqb c 32) h (fields-more l)
  where
    go :
        (t : Bool) → cond t zero (suc (field_length l)) < suc (length l) →
        (field_length l < length l → fields l ≡ take (field_length l) l ∷ fields (drop (suc (field_length l)) l)) →
        cond t ([] ∷ fields l) (in_first c (fields l))
        ≡ take (cond t zero (suc (field_length l))) (c ∷ l) ∷ fields (drop (cond t zero (suc (field_length l))) l)
    go true g rest = refl
    go false g rest = rw (rest (omega arith))

pub fields-some : (l : List ℕ) → (f : List ℕ) × (fs : List (List ℕ)) × (fields l ≡ f ∷ fs)
fields-some l = go (dec_lt (field_length l) (length l))
  where
    go : Dec (field_length l < length l) → (f : List ℕ) × (fs : List (List ℕ)) × (fields l ≡ f ∷ fs)
    go (yes p) = (_, _, fields-more l p)
    go (no p) = (_, _, fields-last l (omega (arith, field-within l)))

-- the scan for the first blank, one byte on
pub blank-here : (l : List ℕ) (i : ℕ) → i < length l → get_or l i 0 ≡ 32 → field_length (drop i l) ≡ zero
unfolding field_length
blank-here l i h e = rw (drop-cons l i 0 h, eq-eqb _ _ e)

pub blank-later :
    (l : List ℕ) (i : ℕ) → i < length l → (get_or l i 0 ≡ 32 → ⊥) → i + field_length (drop i l) ≡ suc i + field_length (drop (suc i) l)
unfolding field_length
blank-later l i h e = rw (drop-cons l i 0 h, ne_eqb _ _ e) (omega arith)

-- a part of a slice from k to its end
pub rest-is : (l : List ℕ) (k : ℕ) → take (length l - k) (drop k l) ≡ drop k l
rest-is l k = take_all (length l - k) (drop k l) (omega (arith, length-drop k l))
