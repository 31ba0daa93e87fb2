-- The text of an answer is short, and a number's text is a field that spells the number.
use Prim.Native.Nat.{ℕ, zero, suc, ◌+◌, ◌-◌, ◌*◌, ◌/◌, ◌%◌, ◌^◌, ◌<◌, ◌≤◌}
use native.Mathlib.Nat.{pow-suc}
use native.Mathlib.Decide.{dec_lt}
use native.Mathlib.Omega.{arith}
use mathlib.Core.Bool.{Bool, true, false, cond, ◌&&◌}
use mathlib.Core.List.{List, [], ◌∷◌, ◌++◌}
use mathlib.Core.Path.{◌≡◌, refl}
use borrow.Author.Tests.{eqb-true, le-leb, lt-ltb, le-ltb}
use lib.Dec.{eqb}
use lib.IntN.{ℤ, pos, negsuc}
use lib.ListN.{length, length-append}
use Rattle.lines.specs.Grammar.{is_digit, all_digits, no_bytes, is_decimal, value_from, value, is_up_to, natural_of}
use Rattle.lines.specs.Replies.{digits_by, digits, signed_digits, reply_bytes}
use Rattle.lines.specs.declared.Natural.TheVariants.{Of}
use Rattle.lines.specs.declared.Reply.{Reply}
use Rattle.lines.specs.declared.Reply.TheVariants.{Accepted, Found, Missing, Refused, Malformed}
use Rattle.lines.proofs.Digits.{length_digits, length-field}

pub length-signed : (z : ℤ) → length (signed_digits z) ≤ 11
unfolding signed_digits
length-signed (pos n) = omega (arith, length_digits n)
length-signed (negsuc n) = omega (arith, length_digits (suc n))

-- an answer has at most 37 bytes
pub reply_length : (r : Reply) → length (reply_bytes r) ≤ 37
unfolding reply_bytes
reply_length (Accepted page) = omega (arith, length-field page 10)
reply_length (Found page ra dec) =
    simp length-append (omega (arith, length-field page 32, length-field ra 32, length-signed dec))
reply_length (Missing page) = omega (arith, length-field page 10)
reply_length (Refused refusal page) =
    simp length-append (omega (arith, length-field refusal 32, length-field page 10))
reply_length Malformed = omega arith

value-append : (v : ℕ) (a b : List ℕ) → value_from v (a ++ b) ≡ value_from (value_from v a) b
unfolding value_from
value-append v [] b = refl
value-append v (c ∷ a) b = value-append (10 * v + (c - 48)) a b

digit_is : (n : ℕ) → is_digit (48 + n % 10) ≡ true
unfolding is_digit
digit_is n = rw (le-leb 48 (48 + n % 10) (omega arith), le-leb (48 + n % 10) 57 (omega arith))

digits_append : (a b : List ℕ) → all_digits a ≡ true → all_digits b ≡ true → all_digits (a ++ b) ≡ true
unfolding all_digits
digits_append [] b p q = q
digits_append (c ∷ a) b p q = go (is_digit c) p (digits_append a b)
  where
    go : (t : Bool) → t && all_digits a ≡ true → (all_digits a ≡ true → all_digits b ≡ true → all_digits (a ++ b) ≡ true) → t && all_digits (a ++ b) ≡ true
    go true e rest = rest e q
    go false e rest = e

spelled_value : (k n : ℕ) → n < 10 ^ suc k → value (digits_by k n) ≡ n
unfolding digits_by value_from
spelled_value zero n h = omega arith
spelled_value (suc k) n h =
    go (dec_lt n 10) (spelled_value k (n / 10) (omega (arith, pow-suc 10 (suc k))))
  where
    go : Dec (n < 10) → value (digits_by k (n / 10)) ≡ n / 10 → value (digits_by (suc k) n) ≡ n
    go (yes p) e = rw (lt-ltb n 10 p) (omega arith)
    go (no p) e =
        rw (le-ltb n 10 (omega arith), value-append 0 (digits_by k (n / 10)) ((48 + n % 10) ∷ []), e) (omega arith)

one-decimal : (n : ℕ) → is_decimal ((48 + n % 10) ∷ []) ≡ true
unfolding is_decimal no_bytes all_digits
one-decimal n = rw (digit_is n) (go (eqb (48 + n % 10) 48))
  where
    go : (t : Bool) → cond t true true ≡ true
    go true = refl
    go false = refl

-- one digit more behind a number that is not 0
more-decimal : (f : List ℕ) (d : ℕ) → is_decimal f ≡ true → 0 < value f → is_digit d ≡ true → is_decimal (f ++ (d ∷ [])) ≡ true
unfolding is_decimal no_bytes all_digits value_from
more-decimal [] d e v h = absurd (omega arith)
more-decimal (c ∷ l) d e v h = go (eqb c 48) refl l e v
  where
    go :
        (t : Bool) → eqb c 48 ≡ t → (l : List ℕ) → cond t (no_bytes l) (all_digits (c ∷ l)) ≡ true → 0 < value (c ∷ l) →
        cond t (no_bytes (l ++ (d ∷ []))) (all_digits (c ∷ (l ++ (d ∷ [])))) ≡ true
    go true q [] p w = absurd (omega (arith, eqb-true c 48 q))
    go true q (x ∷ l) p w = p
    go false q l p w = digits_append (c ∷ l) (d ∷ []) p (rw h)

spelled_decimal : (k n : ℕ) → n < 10 ^ suc k → is_decimal (digits_by k n) ≡ true
unfolding digits_by
spelled_decimal zero n h = one-decimal n
spelled_decimal (suc k) n h =
    let small : n / 10 < 10 ^ suc k = omega (arith, pow-suc 10 (suc k)) in
    go (dec_lt n 10) (spelled_decimal k (n / 10) small) (spelled_value k (n / 10) small)
  where
    go :
        Dec (n < 10) → is_decimal (digits_by k (n / 10)) ≡ true → value (digits_by k (n / 10)) ≡ n / 10 →
        is_decimal (digits_by (suc k) n) ≡ true
    go (yes p) e v = rw (lt-ltb n 10 p) (one-decimal n)
    go (no p) e v =
        rw (le-ltb n 10 (omega arith)) (more-decimal (digits_by k (n / 10)) (48 + n % 10) e (omega arith) (digit_is n))

-- a number of 32 bits is read back from its text
pub read_back : (n : ℕ) → n ≤ 4294967295 → natural_of (digits n) ≡ Of n
unfolding digits natural_of is_up_to
read_back n h = rw (spelled_decimal 9 n (omega arith), spelled_value 9 n (omega arith), le-leb n 4294967295 h)
