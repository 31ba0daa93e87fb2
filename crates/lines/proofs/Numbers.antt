-- Reading a field digit by digit.
use Prim.Native.Nat.{ℕ, ◌+◌, ◌-◌, ◌*◌, ◌<◌, ◌≤◌}
use native.Mathlib.Omega.{arith}
use mathlib.Core.Bool.{Bool, true, false, cond, ◌&&◌}
use mathlib.Core.List.{List, [], ◌∷◌}
use mathlib.Core.Path.{◌≡◌, refl}
use borrow.Author.Tests.{ne_eqb, le-leb, lt-leb}
use lib.Dec.{leb}
use lib.ListN.{length, get_or}
use Rattle.lines.specs.Grammar.{is_digit, all_digits, no_bytes, is_decimal, value_from, is_up_to, natural_of}
use Rattle.lines.specs.declared.Natural.{Natural}
use Rattle.lines.specs.declared.Natural.TheVariants.{Of, Wrong}

-- what a field is whose first digits gave v
unfoldable pub natural_from : ℕ → List ℕ → Natural
natural_from v l = cond (all_digits l && leb (value_from v l) 4294967295) (Of (value_from v l)) Wrong

pub empty-wrong : (l : List ℕ) → length l ≡ 0 → natural_of l ≡ Wrong
unfolding natural_of is_up_to is_decimal
empty-wrong [] e = refl
empty-wrong (c ∷ l) e = absurd (omega arith)

pub zero_alone : (l : List ℕ) → length l ≡ 1 → get_or l 0 0 ≡ 48 → natural_of l ≡ Of 0
unfolding natural_of is_up_to is_decimal no_bytes value_from
zero_alone [] e z = absurd (omega arith)
zero_alone (c ∷ []) e z = rw z
zero_alone (c ∷ d ∷ l) e z = absurd (omega arith)

pub zero_leads : (l : List ℕ) → (length l ≡ 1 → ⊥) → get_or l 0 0 ≡ 48 → natural_of l ≡ Wrong
unfolding natural_of is_up_to is_decimal no_bytes
zero_leads [] e z = refl
zero_leads (c ∷ []) e z = absurd (e refl)
zero_leads (c ∷ d ∷ l) e z = rw z

pub starts : (l : List ℕ) → 0 < length l → (get_or l 0 0 ≡ 48 → ⊥) → natural_of l ≡ natural_from 0 l
unfolding natural_of is_up_to is_decimal natural_from
starts [] h z = absurd (omega arith)
starts (c ∷ l) h z = rw (ne_eqb c 48 z)

pub digit_read : (v c : ℕ) (l : List ℕ) → 48 ≤ c → c ≤ 57 → natural_from v (c ∷ l) ≡ natural_from (10 * v + (c - 48)) l
unfolding natural_from all_digits is_digit value_from
digit_read v c l low high = rw (le-leb 48 c low, le-leb c 57 high)

pub below-digits : (v c : ℕ) (l : List ℕ) → c < 48 → natural_from v (c ∷ l) ≡ Wrong
unfolding natural_from all_digits is_digit
below-digits v c l h = rw (lt-leb 48 c h)

pub above-digits : (v c : ℕ) (l : List ℕ) → 57 < c → natural_from v (c ∷ l) ≡ Wrong
unfolding natural_from all_digits is_digit
above-digits v c l h = rw (le-leb 48 c (omega arith), lt-leb c 57 h)

pub value_grows : (v : ℕ) (l : List ℕ) → v ≤ value_from v l
unfolding value_from
value_grows v [] = omega arith
value_grows v (c ∷ l) = omega (arith, value_grows (10 * v + (c - 48)) l)

pub and-false : (t : Bool) → t && false ≡ false
and-false true = refl
and-false false = refl

pub too_large : (v : ℕ) (l : List ℕ) → 4294967295 < v → natural_from v l ≡ Wrong
unfolding natural_from
too_large v l h = rw (lt-leb (value_from v l) 4294967295 (omega (arith, value_grows v l)), and-false)

pub ends : (v : ℕ) → v ≤ 4294967295 → natural_from v [] ≡ Of v
unfolding natural_from all_digits value_from
ends v h = rw (le-leb v 4294967295 h)
