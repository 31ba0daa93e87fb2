-- `lines::read_declination` meets its contract: by the sign, and by the number after it.
use Prim.Native.Nat.{ℕ, ◌<◌, ◌-◌}
use mathlib.Core.List.{List}
use lib.ListN.{length, get_or, take, drop}
use native.Mathlib.Omega.{arith}
use mathlib.Core.Path.{◌≡◌, sym, ap, ◌∙◌}
use borrow.Author.Tests.{le-leb, lt-leb, lt-ltb}
use lib.Dec.{leb, ltb}
use lib.IntN.{pos, neg_ℤ}
use mathlib.Core.Bool.{cond, ◌&&◌}
use mir.Syntax.{w32}
use mir.ValLaws.{to_z_pos}
use Rattle.lines.specs.Grammar.{declination_of, natural_of}
use Rattle.lines.specs.declared.Natural.{Natural}
use Rattle.lines.specs.declared.Natural.TheVariants.{Of}
use Rattle.lines.specs.declared.Declination.TheVariants.{At, Nowhere}
use Rattle.lines.proofs.Fields.{rest-is}
use Rattle.lines.proofs.Declinations.{empty-nowhere, minus-wrong, minus_is, plus_wrong, plus_is, minus-fits, minus-narrow, minus-read}
use borrow.Author.Rules.{rules}
use Rattle.lines.proofs.read_declination.Goals as goal

pub returns-then-field-eq0 : goal.returns-then-field-eq0
returns-then-field-eq0 c = sym (empty-nowhere _ c.if-field-eq0.true)

pub returns-in_default : goal.returns-in_default
returns-in_default c =
    sym
    (minus-wrong _ (omega arith) c.if-field-eq45.true
    (sym (rw rest-is at c.read_natural.ensures) ∙ c.in_default.is))

minus_known :
    (l : List ℕ) (v : ℕ) (r : Natural) → (length l ≡ 0 → ⊥) → get_or l 0 0 ≡ 45 → r ≡ natural_of (take (length l - 1) (drop 1 l)) → r ≡ Of v →
    declination_of l ≡ cond (leb v 2147483648 && ltb 0 v) (At (neg_ℤ (pos v))) Nowhere
minus_known l v r h sign e is = minus_is l (omega (arith, h)) sign v (sym (rw rest-is at e) ∙ is)

pub returns-then-below-eq0 : goal.returns-then-below-eq0
returns-then-below-eq0 c = sym (minus_known _ _ _ c.if-field-eq0.false c.if-field-eq45.true c.read_natural.ensures c.in-Of.is ∙ rw c.if-below-eq0.true)

pub returns-then-below-gt2147483648 : goal.returns-then-below-gt2147483648
returns-then-below-gt2147483648 c = sym (minus_known _ _ _ c.if-field-eq0.false c.if-field-eq45.true c.read_natural.ensures c.in-Of.is ∙ rw (lt-leb _ _ c.if-below-gt2147483648.true))

pub overflow_sub-result : goal.overflow_sub-result
overflow_sub-result c = minus-fits _ c.if-below-gt2147483648.false

pub overflow_cast-result-then-field-eq45 : goal.overflow_cast-result-then-field-eq45
overflow_cast-result-then-field-eq45 c = minus-narrow _ c.if-below-gt2147483648.false

pub returns-then-field-eq45 : goal.returns-then-field-eq45
returns-then-field-eq45 c =
    let positive : 0 < c.in-Of.below = omega arith in
    ap At (minus-read _ c.if-below-gt2147483648.false)
    ∙ sym (minus_known _ _ _ c.if-field-eq0.false c.if-field-eq45.true c.read_natural.ensures c.in-Of.is ∙ rw (le-leb _ _ c.if-below-gt2147483648.false, lt-ltb 0 _ positive))

pub returns-in_default-read_natural : goal.returns-in_default-read_natural
returns-in_default-read_natural c = sym (plus_wrong _ (omega arith) c.if-field-eq45.false (sym c.read_natural-2.ensures ∙ c.in_default-read_natural.is))

plus_known :
    (l : List ℕ) (v : ℕ) (r : Natural) → (length l ≡ 0 → ⊥) → (get_or l 0 0 ≡ 45 → ⊥) → r ≡ natural_of l → r ≡ Of v →
    declination_of l ≡ cond (leb v 2147483647) (At (pos v)) Nowhere
plus_known l v r h sign e is = plus_is l (omega (arith, h)) sign v (sym e ∙ is)

pub returns-then-above-gt2147483647 : goal.returns-then-above-gt2147483647
returns-then-above-gt2147483647 c = sym (plus_known _ _ _ c.if-field-eq0.false c.if-field-eq45.false c.read_natural-2.ensures c.in-Of-read_natural.is ∙ rw (lt-leb _ _ c.if-above-gt2147483647.true))

pub returns : goal.returns
returns c =
    let small : c.in-Of-read_natural.above < 2147483648 = omega arith in
    ap At (to_z_pos w32 _ small) ∙ sym (plus_known _ _ _ c.if-field-eq0.false c.if-field-eq45.false c.read_natural-2.ensures c.in-Of-read_natural.is ∙ rw (le-leb _ _ c.if-above-gt2147483647.false))
