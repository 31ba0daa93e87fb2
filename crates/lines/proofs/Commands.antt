-- The command of a line from its first two bytes and the fields after them.
use Prim.Native.Nat.{ℕ, ◌<◌}
use native.Mathlib.Omega.{arith}
use mathlib.Core.Bool.{Bool, true, false, cond}
use mathlib.Core.List.{List, [], ◌∷◌}
use mathlib.Core.Path.{◌≡◌, refl}
use borrow.Author.Tests.{eqb-true, ne_eqb}
use lib.Dec.{eqb}
use lib.ListN.{length, drop, get_or}
use Rattle.lines.specs.Grammar.{fields, in_first, natural_of, declination_of, enter_with, enter_from, number_from, number_with, grow_from, letter_of, by_letter, by_fields, command_of}
use Rattle.lines.specs.Shape.{field_length}
use Rattle.lines.specs.declared.Command.TheVariants.{LookUp, Remove, Grow, Bad}
use Rattle.lines.specs.declared.Natural.{Natural}
use Rattle.lines.specs.declared.Natural.TheVariants.{Of, Wrong}
use Rattle.lines.specs.declared.Declination.{Declination}
use Rattle.lines.proofs.SingleField.{number-alone}
use Rattle.lines.proofs.Fields.{fields-last, fields-some}

pub either : (t : Bool) → cond t Bad Bad ≡ Bad
either true = refl
either false = refl

pub no_letter : (fs : List (List ℕ)) → by_letter 0 fs ≡ Bad
unfolding by_letter
no_letter fs = refl

pub empty-bad : (l : List ℕ) → length l ≡ 0 → command_of l ≡ Bad
unfolding command_of by_fields fields letter_of
empty-bad [] e = no_letter []
empty-bad (c ∷ l) e = absurd (omega arith)

pub grow_alone : (l : List ℕ) → length l ≡ 1 → get_or l 0 0 ≡ 71 → command_of l ≡ Grow
unfolding command_of by_fields fields in_first letter_of by_letter grow_from
grow_alone [] e g = absurd (omega arith)
grow_alone (c ∷ []) e g = rw g
grow_alone (c ∷ d ∷ l) e g = absurd (omega arith)

pub other-alone : (l : List ℕ) → length l ≡ 1 → (get_or l 0 0 ≡ 71 → ⊥) → command_of l ≡ Bad
unfolding command_of by_fields fields in_first letter_of by_letter enter_from number_from
other-alone [] e g = absurd (omega arith)
other-alone (c ∷ []) e g = go (eqb c 32)
  where
    go : (t : Bool) → by_fields (cond t ([] ∷ [] ∷ []) ((c ∷ []) ∷ [])) ≡ Bad
    go true = refl
    go false = rw (ne_eqb c 71 g) (simp either)
other-alone (c ∷ d ∷ l) e g = absurd (omega arith)

long-first : (c d : ℕ) (fs : List (List ℕ)) → by_fields (in_first c (in_first d fs)) ≡ Bad
unfolding by_fields in_first letter_of
long-first c d [] = no_letter _
long-first c d (f ∷ fs) = no_letter _

blank-first : (fs : List (List ℕ)) → by_fields ([] ∷ fs) ≡ Bad
unfolding by_fields letter_of
blank-first fs = no_letter fs

pub second-bad : (l : List ℕ) → 1 < length l → (get_or l 1 0 ≡ 32 → ⊥) → command_of l ≡ Bad
unfolding command_of fields
second-bad [] h e = absurd (omega arith)
second-bad (c ∷ []) h e = absurd (omega arith)
second-bad (c ∷ d ∷ l) h e = rw (ne_eqb d 32 e) (go (eqb c 32))
  where
    go : (t : Bool) → by_fields (cond t ([] ∷ in_first d (fields l)) (in_first c (in_first d (fields l)))) ≡ Bad
    go true = blank-first (in_first d (fields l))
    go false = long-first c d (fields l)

pub lettered : (l : List ℕ) → 1 < length l → get_or l 1 0 ≡ 32 → command_of l ≡ by_letter (get_or l 0 0) (fields (drop 2 l))
unfolding command_of by_fields fields in_first letter_of by_letter
lettered [] h e = absurd (omega arith)
lettered (c ∷ []) h e = absurd (omega arith)
lettered (c ∷ d ∷ l) h e = rw e (go (eqb c 32) refl)
  where
    go :
        (t : Bool) → eqb c 32 ≡ t → by_fields (cond t ([] ∷ [] ∷ fields l) ((c ∷ []) ∷ fields l)) ≡ by_letter c (fields l)
    go true q = rw (eqb-true c 32 q)
    go false q = refl

grow_more : (l : List ℕ) → grow_from (fields l) ≡ Bad
unfolding grow_from
grow_more l = rw (fields-some l).2

-- without a number after it no letter but E is a command
pub wrong_number : (c : ℕ) (l : List ℕ) → (c ≡ 69 → ⊥) → natural_of l ≡ Wrong → by_letter c (fields l) ≡ Bad
unfolding by_letter number_with
wrong_number c l e h =
    rw (ne_eqb c 69 e, number-alone LookUp l, number-alone Remove l, h, grow_more l) (simp either)

pub other-letter : (c : ℕ) (l : List ℕ) → (c ≡ 69 → ⊥) → (c ≡ 76 → ⊥) → (c ≡ 82 → ⊥) → by_letter c (fields l) ≡ Bad
unfolding by_letter
other-letter c l e f g = rw (ne_eqb c 69 e, ne_eqb c 76 f, ne_eqb c 82 g, grow_more l) (either (eqb c 71))

pub enter_short : (l : List ℕ) → field_length l ≡ length l → enter_from (fields l) ≡ Bad
unfolding enter_from
enter_short l e = rw (fields-last l e)

pub enter_wrong : (f : List ℕ) (fs : List (List ℕ)) → natural_of f ≡ Wrong → enter_from (f ∷ fs) ≡ Bad
unfolding enter_from enter_with
enter_wrong f [] e = refl
enter_wrong f (a ∷ []) e = refl
enter_wrong f (a ∷ b ∷ []) e = rw e
enter_wrong f (a ∷ b ∷ d ∷ fs) e = refl

pub wrong_ra : (x : Natural) (d : Declination) → enter_with x Wrong d ≡ Bad
unfolding enter_with
wrong_ra Wrong d = refl
wrong_ra (Of n) d = refl

pub enter_wrong_ra : (f g : List ℕ) (fs : List (List ℕ)) → natural_of g ≡ Wrong → enter_from (f ∷ g ∷ fs) ≡ Bad
unfolding enter_from
enter_wrong_ra f g [] e = refl
enter_wrong_ra f g (a ∷ []) e = rw e (wrong_ra (natural_of f) (declination_of a))
enter_wrong_ra f g (a ∷ b ∷ fs) e = refl

pub enter_ra_short : (f l : List ℕ) → field_length l ≡ length l → enter_from (f ∷ fields l) ≡ Bad
unfolding enter_from
enter_ra_short f l e = rw (fields-last l e)
