-- `lines::enter_at` meets its contract.
use Prim.Native.Nat.{ℕ, suc, ◌<◌, ◌≤◌}
use native.Mathlib.Numerals.{add-one}
use native.Mathlib.Omega.{arith}
use mathlib.Core.List.{List, ◌∷◌}
use mathlib.Core.Path.{◌≡◌, sym, ap, ◌∙◌}
use lib.ListN.{length, take, drop}
use lib.Seq.{length-take-le}
use mir.Syntax.{w32}
use mir.Val.{to_z, of_z}
use Rattle.lines.specs.Grammar.{fields, declination_of, enter_from, enter_with}
use Rattle.lines.specs.Shape.{field_length}
use Rattle.lines.proofs.Fields.{fields-more, rest-is}
use Rattle.lines.proofs.SingleField.{enter_alone, nowhere}
use Rattle.lines.proofs.Commands.{enter_ra_short, enter_wrong_ra}
use borrow.Author.Rules.{rules}
use Rattle.lines.proofs.enter_at.Goals as goal

pub returns-then-a-position : goal.returns-then-a-position
returns-then-a-position c = λ f e. sym (enter_ra_short f _ (sym c.first_blank-a.ensures.0 ∙ c.if-a-position.true))

pub slice_bounds-read_natural-end : goal.slice_bounds-read_natural-end
slice_bounds-read_natural-end c = sym (length-take-le _ _ c.first_blank-a.ensures.1)

-- the right ascension is the first field
split :
    (l : List ℕ) (k : ℕ) → (k ≡ field_length l) × (k ≤ length l) → (k ≡ length l → ⊥) → (f : List ℕ) →
    enter_from (f ∷ fields l) ≡ enter_from (f ∷ take k l ∷ fields (drop (suc k) l))
split l k e h f =
    let within : field_length l < length l = omega (arith, e, h) in
    rw e.0 (ap (λ (fs : List (List ℕ)). enter_from (f ∷ fs)) (fields-more l within))

pub returns-in_default : goal.returns-in_default
returns-in_default c =
    λ f e. sym (split c.args.position.now _ c.first_blank-a.ensures c.if-a-position.false f ∙ enter_wrong_ra f _ _ (sym c.read_natural.ensures ∙ c.in_default.is))

pub returns-in_default-read_declination : goal.returns-in_default-read_declination
returns-in_default-read_declination c =
    λ f e.
    sym
    (split c.args.position.now _ c.first_blank-a.ensures c.if-a-position.false f
    ∙ enter_alone f _ _
    ∙ rw (sym (rw (add-one c.first_blank-a.result, rest-is) at c.read_declination.ensures) ∙ c.in_default-read_declination.is) (nowhere _ _))

pub returns : goal.returns
unfolding enter_with
returns c =
    let back : to_z w32 (of_z w32 c.in-At.dec) ≡ c.in-At.dec = search rules in
    λ f e.
    sym
    (split c.args.position.now _ c.first_blank-a.ensures c.if-a-position.false f
    ∙ enter_alone f _ _
    ∙ rw (
      e,
      sym c.read_natural.ensures ∙ c.in-Of.is,
      sym (rw (add-one c.first_blank-a.result, rest-is) at c.read_declination.ensures) ∙ c.in-At.is,
      back,
    ))
