-- A number's digits, its last one taken off.
use Prim.Native.Nat.{ℕ, zero, suc, ◌+◌, ◌/◌, ◌%◌, ◌^◌, ◌<◌, ◌≤◌}
use native.Mathlib.Nat.{pow-suc, mod-eq_of_lt}
use native.Mathlib.Omega.{arith}
use mathlib.Core.Bool.{Bool, true, false, cond}
use mathlib.Core.List.{List, [], ◌∷◌, ◌++◌}
use mathlib.Core.Path.{◌≡◌, refl, ap, ◌∙◌}
use borrow.Author.Tests.{lt-ltb, le-ltb}
use lib.Dec.{ltb}
use lib.ListN.{length, set, length-append}
use Rattle.lines.specs.Replies.{digits_by, digits, field_bytes, TextAt}
use Rattle.lines.proofs.Writing.{one_more}

pub digits-small : (n : ℕ) → n < 10 → digits n ≡ (48 + n % 10) ∷ []
unfolding digits digits_by
digits-small n h = rw (lt-ltb n 10 h)

-- a number that k digits more than one hold needs no further ones
enough : (k n : ℕ) → n < 10 ^ suc k → digits_by (suc k) n ≡ digits_by k n
unfolding digits_by
enough zero n h = rw (lt-ltb n 10 h)
enough (suc k) n h = rw (enough k (n / 10) (omega (arith, pow-suc 10 (suc k))))

pub digits_more : (n : ℕ) → 10 ≤ n → n < 4294967296 → digits n ≡ digits (n / 10) ++ ((48 + n % 10) ∷ [])
unfolding digits digits_by
digits_more n h small = rw (le-ltb n 10 h, enough 8 (n / 10) (omega arith))

length-by : (k n : ℕ) → length (digits_by k n) ≤ suc k
unfolding digits_by
length-by zero n = omega arith
length-by (suc k) n = go (ltb n 10) (length-by k (n / 10))
  where
    go :
        (t : Bool) → length (digits_by k (n / 10)) ≤ suc k →
        length (cond t ((48 + n % 10) ∷ []) (digits_by k (n / 10) ++ ((48 + n % 10) ∷ []))) ≤ suc (suc k)
    go true h = omega arith
    go false h = rw (length-append (digits_by k (n / 10)) ((48 + n % 10) ∷ [])) (omega arith)

pub length_digits : (n : ℕ) → length (digits n) ≤ 10
unfolding digits
length_digits n = length-by 9 n

pub lone : (n : ℕ) → n < 10 → length (digits n) ≡ 1
lone n h = ap length (digits-small n h)

pub longer : (n : ℕ) → 10 ≤ n → n < 4294967296 → length (digits n) ≡ length (digits (n / 10)) + 1
longer n h small = ap length (digits_more n h small) ∙ length-append (digits (n / 10)) ((48 + n % 10) ∷ [])

pub one-digit : (at n : ℕ) (l : List ℕ) → n < 10 → TextAt at (digits n) l (set l at (48 + n)) (at + 1)
one-digit at n l h = rw (digits-small n h, mod-eq_of_lt h) (record { buffer = refl; end = refl })

pub digit_more :
    (at n : ℕ) (l mid : List ℕ) (m : ℕ) → 10 ≤ n → n < 4294967296 → TextAt at (digits (n / 10)) l mid m →
    TextAt at (digits n) l (set mid m (48 + n % 10)) (m + 1)
digit_more at n l mid m h small w = rw (digits_more n h small) (one_more at (digits (n / 10)) (48 + n % 10) l mid m w)

pub length-field : (n last : ℕ) → length (field_bytes n last) ≤ 11
unfolding field_bytes
length-field n last = rw (length-append (digits n) (last ∷ [])) (omega (arith, length_digits n))
