-- `lines::read_natural` meets its contract. The loop's invariant: the digits before i gave value, which fits 32 bits.
use Prim.Native.Nat.{ℕ, suc, ◌+◌, ◌*◌, ◌-◌, ◌<◌, ◌≤◌}
use native.Mathlib.Numerals.{add-one}
use native.Mathlib.Omega.{arith}
use mathlib.Core.List.{List, ◌∷◌}
use mathlib.Core.Path.{◌≡◌, sym, ◌∙◌}
use lib.ListN.{length, drop, get_or, drop_of_length-le}
use lib.Seq.{drop-cons}
use Rattle.lines.proofs.Numbers.{natural_from, empty-wrong, zero_alone, zero_leads, starts, digit_read, below-digits, above-digits, too_large, ends}
use Rattle.lines.specs.Grammar.{natural_of}
use Rattle.lines.proofs.read_natural.Goals as goal

pub returns-then-field-eq0 : goal.returns-then-field-eq0
returns-then-field-eq0 c = sym (empty-wrong _ c.if-field-eq0.true)

pub returns-then-field-eq1 : goal.returns-then-field-eq1
returns-then-field-eq1 c = sym (zero_alone _ c.if-field-eq1.true c.if-field-eq48.true)

pub returns-then-field-eq48 : goal.returns-then-field-eq48
returns-then-field-eq48 c = sym (zero_leads _ c.if-field-eq1.false c.if-field-eq48.true)

pub loop-c-init : goal.loop-c-init
loop-c-init c = (omega arith, starts _ (omega arith) c.if-field-eq48.false)

opened :
    (l : List ℕ) (v i : ℕ) → i < length l → natural_of l ≡ natural_from v (drop i l) →
    natural_of l ≡ natural_from v (get_or l i 0 ∷ drop (suc i) l)
opened l v i h e = rw (← drop-cons {A = ℕ} l i 0 h) e

stepped :
    (l : List ℕ) (v i : ℕ) → i < length l → natural_of l ≡ natural_from v (drop i l) → 48 ≤ get_or l i 0 → get_or l i 0 ≤ 57 →
    natural_of l ≡ natural_from (10 * v + (get_or l i 0 - 48)) (drop (suc i) l)
stepped l v i h e a b = opened l v i h e ∙ digit_read _ _ _ a b

pub returns-then-c-lt48 : goal.returns-then-c-lt48
returns-then-c-lt48 c = sym (opened _ _ _ c.loop-c-test.true c.loop-c.invariant.1 ∙ below-digits _ _ _ c.if-c-lt48.true)

pub returns-then-c-gt57 : goal.returns-then-c-gt57
returns-then-c-gt57 c = sym (opened _ _ _ c.loop-c-test.true c.loop-c.invariant.1 ∙ above-digits _ _ _ c.if-c-gt57.true)

pub returns-then-value-gt4294967295 : goal.returns-then-value-gt4294967295
returns-then-value-gt4294967295 c = sym (stepped _ _ _ c.loop-c-test.true c.loop-c.invariant.1 c.if-c-lt48.false c.if-c-gt57.false ∙ too_large _ _ c.if-value-gt4294967295.true)

pub loop-c-preserved : goal.loop-c-preserved
loop-c-preserved c = rw (add-one c.loop-c.c-index) (omega arith, stepped _ _ _ c.loop-c-test.true c.loop-c.invariant.1 c.if-c-lt48.false c.if-c-gt57.false)

pub returns : goal.returns
returns c = sym (c.loop-c.invariant.1 ∙ rw (drop_of_length-le _ c.loop-c-test.false) (ends _ (omega arith)))
