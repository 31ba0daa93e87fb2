-- A blank is no part of a number, so a list of bytes that is read as a number is one field.
use Prim.Native.Nat.{ℕ, zero, suc, ◌<◌}
use native.Mathlib.Omega.{arith}
use native.Mathlib.Decide.{dec_lt}
use mathlib.Core.Bool.{Bool, true, false, cond, ◌&&◌}
use mathlib.Core.List.{List, [], ◌∷◌}
use mathlib.Core.Path.{◌≡◌, refl, sym}
use borrow.Author.Tests.{eqb-true}
use lib.Dec.{eqb, leb, ltb}
use lib.IntN.{pos, neg_ℤ}
use lib.ListN.{length, drop}
use Rattle.lines.specs.Grammar.{fields, is_digit, all_digits, no_bytes, is_decimal, is_up_to, natural_of, declination_of, value, number_from, number_with, enter_from, enter_with}
use Rattle.lines.specs.Shape.{field_length}
use Rattle.lines.specs.declared.Command.{Command}
use Rattle.lines.specs.declared.Command.TheVariants.{Bad}
use Rattle.lines.specs.declared.Natural.{Natural}
use Rattle.lines.specs.declared.Natural.TheVariants.{Of, Wrong}
use Rattle.lines.specs.declared.Declination.TheVariants.{At, Nowhere}
use Rattle.lines.proofs.Numbers.{and-false}
use Rattle.lines.proofs.Fields.{fields-last, fields-more, fields-some, field-within}

not_digits : (l : List ℕ) → field_length l < length l → all_digits l ≡ false
unfolding field_length all_digits is_digit
not_digits [] h = absurd (omega arith)
not_digits (c ∷ l) h = go (eqb c 32) refl h (not_digits l)
  where
    go :
        (t : Bool) → eqb c 32 ≡ t → cond t zero (suc (field_length l)) < suc (length l) →
        (field_length l < length l → all_digits l ≡ false) → leb 48 c && leb c 57 && all_digits l ≡ false
    go true e p rest = rw (eqb-true c 32 e)
    go false e p rest = rw (rest (omega arith), and-false)

not_decimal : (l : List ℕ) → field_length l < length l → is_decimal l ≡ false
unfolding field_length is_decimal no_bytes
not_decimal [] h = refl
not_decimal (c ∷ []) h = go (eqb c 48) refl
  where
    go : (t : Bool) → eqb c 48 ≡ t → cond t true (all_digits (c ∷ [])) ≡ false
    go true e = absurd (omega (arith, rw (eqb-true c 48 e) at h))
    go false e = not_digits (c ∷ []) h
not_decimal (c ∷ d ∷ l) h = go (eqb c 48)
  where
    go : (t : Bool) → cond t false (all_digits (c ∷ d ∷ l)) ≡ false
    go true = refl
    go false = not_digits (c ∷ d ∷ l) h

not_up_to : (most : ℕ) (l : List ℕ) → field_length l < length l → is_up_to most l ≡ false
unfolding is_up_to
not_up_to most l h = rw (not_decimal l h)

pub not_natural : (l : List ℕ) → field_length l < length l → natural_of l ≡ Wrong
unfolding natural_of
not_natural l h = rw (not_up_to 4294967295 l h)

pub not_declination : (l : List ℕ) → field_length l < length l → declination_of l ≡ Nowhere
unfolding declination_of field_length
not_declination [] h = refl
not_declination (c ∷ f) h = go (eqb c 45) refl
  where
    go :
        (t : Bool) → eqb c 45 ≡ t →
        cond t (cond (is_up_to 2147483648 f && ltb 0 (value f)) (At (neg_ℤ (pos (value f)))) Nowhere)
        (cond (is_up_to 2147483647 (c ∷ f)) (At (pos (value (c ∷ f)))) Nowhere) ≡ Nowhere
    go true e = rw (not_up_to 2147483648 f (omega (arith, rw (eqb-true c 45 e) at h)))
    go false e = rw (not_up_to 2147483647 (c ∷ f) h)

-- what a command makes of the fields of l, from what it makes of l as one field, and of any two fields or more
alone :
    (command : List (List ℕ) → Command) (w : Command) (l : List ℕ) → command (l ∷ []) ≡ w →
    (field_length l < length l → (a b : List ℕ) (fs : List (List ℕ)) → command (a ∷ b ∷ fs) ≡ w) →
    command (fields l) ≡ w
alone command w l one more = go (dec_lt (field_length l) (length l))
  where
    go : Dec (field_length l < length l) → command (fields l) ≡ w
    go (yes p) =
        let after = fields-some (drop (suc (field_length l)) l) in
        rw (fields-more l p, after.2) (more p _ _ _)
    go (no p) = rw (fields-last l (omega (arith, field-within l))) one

pub number-alone : (make : ℕ → Command) (l : List ℕ) → number_from make (fields l) ≡ number_with make (natural_of l)
unfolding number_from number_with
number-alone make l = alone (number_from make) _ l refl (λ p a b fs. rw (not_natural l p))

pub nowhere : (x y : Natural) → enter_with x y Nowhere ≡ Bad
unfolding enter_with
nowhere Wrong y = refl
nowhere (Of n) Wrong = refl
nowhere (Of n) (Of m) = refl

pub enter_alone :
    (number ra l : List ℕ) →
    enter_from (number ∷ ra ∷ fields l) ≡ enter_with (natural_of number) (natural_of ra) (declination_of l)
unfolding enter_from
enter_alone number ra l =
    alone (λ fs. enter_from (number ∷ ra ∷ fs)) _ l refl
    (λ p a b fs. rw (not_declination l p) (sym (nowhere (natural_of number) (natural_of ra))))
