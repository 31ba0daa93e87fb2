-- The text of starline's answers (document 01, "Host and program"), newline included.
use Rattle.std.specs.Prelude.{ℕ, zero, suc, ◌+◌, ◌/◌, ◌%◌, cond, List, [], ◌∷◌, ◌++◌, ltb, ℤ, pos, negsuc, length, ◌≡◌}
use Rattle.std.proofs.lemmas.List.Edits.{sets}
use Rattle.lines.specs.declared.Reply.{Reply}
use Rattle.lines.specs.declared.Reply.TheVariants.{Accepted, Found, Missing, Refused, Malformed}

-- n in base ten with at most k digits more than one
unfoldable pub digits_by : ℕ → ℕ → List ℕ
digits_by zero n = (48 + n % 10) ∷ []
digits_by (suc k) n = cond (ltb n 10) ((48 + n % 10) ∷ []) (digits_by k (n / 10) ++ ((48 + n % 10) ∷ []))

-- n in base ten without leading zeros; ten digits hold every number of 32 bits
unfoldable pub digits : ℕ → List ℕ
digits n = digits_by 9 n

unfoldable pub signed_digits : ℤ → List ℕ
signed_digits (pos n) = digits n
signed_digits (negsuc n) = 45 ∷ digits (suc n)

-- a number and the byte after it: a blank (32), or the newline (10) that ends the answer
unfoldable pub field_bytes : ℕ → ℕ → List ℕ
field_bytes n last = digits n ++ (last ∷ [])

-- `ok` page, `at` page ra dec, `none` page, `no` refusal page, `bad`
unfoldable pub reply_bytes : Reply → List ℕ
reply_bytes (Accepted page) = (111 ∷ 107 ∷ 32 ∷ []) ++ field_bytes page 10
reply_bytes (Found page ra dec) =
    (97 ∷ 116 ∷ 32 ∷ []) ++ (field_bytes page 32 ++ (field_bytes ra 32 ++ (signed_digits dec ++ (10 ∷ []))))
reply_bytes (Missing page) = (110 ∷ 111 ∷ 110 ∷ 101 ∷ 32 ∷ []) ++ field_bytes page 10
reply_bytes (Refused refusal page) = (110 ∷ 111 ∷ 32 ∷ []) ++ (field_bytes refusal 32 ++ field_bytes page 10)
reply_bytes Malformed = 98 ∷ 97 ∷ 100 ∷ 10 ∷ []

-- text stands in a buffer from place at on, the rest of the buffer is as before, and next is the place after the text
pub record TextAt (at : ℕ) (text : List ℕ) (before after : List ℕ) (next : ℕ) : Type 0 where
  pub buffer : after ≡ sets before at text
  pub end : next ≡ at + length text
