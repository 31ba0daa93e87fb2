-- A line of more than 64 bytes is Bad: a field of more than ten digits is beyond 32 bits.
use Prim.Native.Nat.{ℕ, zero, suc, ◌+◌, ◌-◌, ◌*◌, ◌<◌, ◌≤◌}
use native.Mathlib.Decide.{dec_lt}
use native.Mathlib.Omega.{arith}
use mathlib.Core.Bool.{Bool, true, false, cond, ◌&&◌}
use mathlib.Core.List.{List, [], ◌∷◌}
use mathlib.Core.Path.{◌≡◌, refl}
use borrow.Author.Tests.{eqb-false, leb-true, lt-leb}
use lib.Dec.{eqb, leb}
use lib.ListN.{length}
use Rattle.lines.specs.Grammar.{fields, in_first, is_digit, all_digits, no_bytes, is_decimal, value_from, is_up_to, natural_of, declination_of, enter_with, enter_from, number_with, number_from, grow_from, letter_of, by_letter, by_fields, command_of}
use Rattle.lines.specs.declared.Command.{Command}
use Rattle.lines.specs.declared.Command.TheVariants.{LookUp, Remove, Bad}
use Rattle.lines.specs.declared.Natural.TheVariants.{Wrong}
use Rattle.lines.specs.declared.Declination.TheVariants.{Nowhere}
use Rattle.lines.proofs.SingleField.{nowhere}
use Rattle.lines.proofs.Commands.{either, no_letter, wrong_ra}
use Rattle.lines.proofs.Numbers.{value_grows, and-false}

-- m with k zeros behind it
tens : ℕ → ℕ → ℕ
tens zero m = m
tens (suc k) m = tens k (10 * m)

scale : (k m v : ℕ) (l : List ℕ) → m ≤ v → k ≤ length l → tens k m ≤ value_from v l
unfolding tens value_from
scale zero m v l h n = omega (arith, value_grows v l)
scale (suc k) m v [] h n = absurd (omega arith)
scale (suc k) m v (c ∷ l) h n = scale k (10 * m) (10 * v + (c - 48)) l (omega arith) (omega arith)

long-up_to : (most : ℕ) (f : List ℕ) → most ≤ 4294967295 → 10 < length f → is_up_to most f ≡ false
unfolding is_up_to is_decimal no_bytes all_digits is_digit value_from tens
long-up_to most [] h n = refl
long-up_to most (c ∷ []) h n = absurd (omega arith)
long-up_to most (c ∷ d ∷ l) h n = go (eqb c 48) refl
  where
    big : 1 ≤ c - 48 → leb (value_from (10 * 0 + (c - 48)) (d ∷ l)) most ≡ false
    big p = lt-leb (value_from (10 * 0 + (c - 48)) (d ∷ l)) most (omega (arith, scale 10 1 (10 * 0 + (c - 48)) (d ∷ l) (omega arith) (omega arith)))

    digits : (t : Bool) → leb 48 c ≡ t → (c ≡ 48 → ⊥) → (t && leb c 57 && all_digits (d ∷ l)) && leb (value_from (10 * 0 + (c - 48)) (d ∷ l)) most ≡ false
    digits false e p = refl
    digits true e p = rw (big (omega (arith, leb-true 48 c e))) (and-false (leb c 57 && all_digits (d ∷ l)))

    go :
        (t : Bool) → eqb c 48 ≡ t →
        cond t false (all_digits (c ∷ d ∷ l)) && leb (value_from (10 * 0 + (c - 48)) (d ∷ l)) most ≡ false
    go true e = refl
    go false e = digits (leb 48 c) refl (eqb-false c 48 e)

long-natural : (f : List ℕ) → 10 < length f → natural_of f ≡ Wrong
unfolding natural_of
long-natural f h = rw (long-up_to 4294967295 f (omega arith) h)

long-declination : (f : List ℕ) → 11 < length f → declination_of f ≡ Nowhere
unfolding declination_of
long-declination [] h = refl
long-declination (c ∷ f) h =
    rw (long-up_to 2147483648 f (omega arith) (omega arith), long-up_to 2147483647 (c ∷ f) (omega arith) (omega arith)) (go (eqb c 45))
  where
    go : (t : Bool) → cond t Nowhere Nowhere ≡ Nowhere
    go true = refl
    go false = refl

-- the bytes of some fields, with a blank or the line's end after each
total : List (List ℕ) → ℕ
total [] = 0
total (f ∷ fs) = suc (length f) + total fs

total-fields : (l : List ℕ) → total (fields l) ≡ suc (length l)
unfolding total fields in_first
total-fields [] = refl
total-fields (c ∷ l) = go (eqb c 32) (fields l) (total-fields l)
  where
    go : (t : Bool) (fs : List (List ℕ)) → total fs ≡ suc (length l) → total (cond t ([] ∷ fs) (in_first c fs)) ≡ suc (suc (length l))
    go true fs e = omega arith
    go false [] e = absurd (omega arith)
    go false (f ∷ fs) e = omega arith

long-enter : (fs : List (List ℕ)) → 36 < total fs → enter_from fs ≡ Bad
unfolding total enter_from enter_with
long-enter [] h = refl
long-enter (a ∷ []) h = refl
long-enter (a ∷ b ∷ []) h = refl
long-enter (a ∷ b ∷ d ∷ []) h = go (dec_lt 10 (length a)) (dec_lt 10 (length b))
  where
    go : Dec (10 < length a) → Dec (10 < length b) → enter_with (natural_of a) (natural_of b) (declination_of d) ≡ Bad
    go (yes p) q = rw (long-natural a p)
    go (no p) (yes q) = rw (long-natural b q) (wrong_ra (natural_of a) (declination_of d))
    go (no p) (no q) = rw (long-declination d (omega arith)) (nowhere (natural_of a) (natural_of b))
long-enter (a ∷ b ∷ d ∷ e ∷ fs) h = refl

long-number : (make : ℕ → Command) (fs : List (List ℕ)) → 36 < total fs → number_from make fs ≡ Bad
unfolding total number_from number_with
long-number make [] h = refl
long-number make (a ∷ []) h = rw (long-natural a (omega arith))
long-number make (a ∷ b ∷ fs) h = refl

long-grow : (fs : List (List ℕ)) → 36 < total fs → grow_from fs ≡ Bad
unfolding total grow_from
long-grow [] h = absurd (omega arith)
long-grow (a ∷ fs) h = refl

long-fields : (fs : List (List ℕ)) → 38 < total fs → by_fields fs ≡ Bad
unfolding total by_fields by_letter letter_of
long-fields [] h = refl
long-fields ([] ∷ fs) h = no_letter fs
long-fields ((c ∷ []) ∷ fs) h =
    rw (
      long-enter fs (omega arith),
      long-number LookUp fs (omega arith),
      long-number Remove fs (omega arith),
      long-grow fs (omega arith),
    )
    (simp either)
long-fields ((c ∷ d ∷ f) ∷ fs) h = no_letter fs

pub long-bad : (l : List ℕ) → 64 < length l → command_of l ≡ Bad
unfolding command_of
long-bad l h = long-fields (fields l) (omega (arith, total-fields l))
