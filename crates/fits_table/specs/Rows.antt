-- A row: number, right ascension and declination as big-endian numbers of 32 bits, the last in two's complement (FITS Standard 4.0, 5.2.3, 7.3.3.1).
-- Assumes nothing.
use Rattle.std.specs.Prelude.{Bool, true, false, ◌&&◌, List, [], ◌∷◌, ◌++◌, ℕ, zero, suc, ◌+◌, ◌-◌, ◌*◌, ◌/◌, ◌%◌, ◌^◌, ltb, length, get_or, replicate, ℤ, pos, negsuc}
use Rattle.pages.specs.Position.{valid_number, valid_position, packed, unpacked}
use Rattle.pages.specs.declared.position.Position.{Position}
use Rattle.placement.specs.Rule.{Star as Rule-as-Star}
use Rattle.fits_table.specs.Header.{headers, blocks_of}
use Rattle.fits_table.specs.declared.rows.Row.{Row}
use Rattle.fits_table.specs.declared.rows.Row.TheVariants.{Star, Wrong}

-- "big-endian"
unfoldable pub be32 : ℕ → List ℕ
be32 n = n / 2 ^ 24 ∷ n / 2 ^ 16 % 256 ∷ n / 2 ^ 8 % 256 ∷ n % 256 ∷ []

unfoldable pub from32 : List ℕ → ℕ → ℕ
from32 l at = get_or l at 0 * 2 ^ 24 + get_or l (at + 1) 0 * 2 ^ 16 + get_or l (at + 2) 0 * 2 ^ 8 + get_or l (at + 3) 0

-- two's complement of 32 bits: negsuc n is −(n + 1)
unfoldable pub twos : ℤ → ℕ
twos (pos n) = n
twos (negsuc n) = 2 ^ 32 - suc n

abbrev pub signed_by : Bool → ℕ → ℤ
signed_by true n = pos n
signed_by false n = negsuc (2 ^ 32 - suc n)

unfoldable pub signed : ℕ → ℤ
signed n = signed_by (ltb n (2 ^ 31)) n

-- "three columns of form 1J (number, right ascension, declination)", of a star's number and word
unfoldable pub row_bytes : ℕ → ℕ → List ℕ
row_bytes number word = be32 number ++ (be32 (unpacked word).ra ++ be32 (twos (unpacked word).dec))

unfoldable pub position_at : List ℕ → ℕ → Position
position_at l at = record { ra = from32 l (at + 4); dec = signed (from32 l (at + 8)) }

abbrev pub row_answer : Bool → ℕ → ℕ → Row
row_answer true number word = Star number word
row_answer false number word = Wrong

-- the row at byte `at`, after a row of number `last`, or "a row out of order or range"
unfoldable pub row_at : ℕ → List ℕ → ℕ → Row
row_at last l at =
    row_answer
    (ltb last (from32 l at) && (valid_number (from32 l at) && valid_position (position_at l at)))
    (from32 l at)
    (packed (position_at l at))

abbrev pub good_after : Row → (ℕ → Bool) → Bool
good_after (Star number word) rest = rest number
good_after Wrong rest = false

-- no row of the n from byte `at` on is out of order or range
unfoldable pub good_rows : ℕ → List ℕ → ℕ → ℕ → Bool
good_rows last l at zero = true
good_rows last l at (suc n) = good_after (row_at last l at) (λ (k : ℕ). good_rows k l (at + 12) n)

-- rows given as (number, word), in their order
unfoldable pub rows_bytes : List (ℕ × ℕ) → List ℕ
rows_bytes [] = []
rows_bytes (r ∷ rs) = row_bytes r.0 r.1 ++ rows_bytes rs

-- the whole table: "data padded with zeros" to blocks of 2,880
unfoldable pub table_of : List (ℕ × ℕ) → List ℕ
table_of rs = headers (length rs) ++ (rows_bytes rs ++ replicate (blocks_of (12 * length rs) - 12 * length rs) 0)

-- a star's row
abbrev pub row_of_star : Rule-as-Star → ℕ × ℕ
row_of_star s = (s.number, s.payload.word)

-- the rows as they are read, n from byte `at` on
unfoldable pub rows_read : List ℕ → ℕ → ℕ → List (ℕ × ℕ)
rows_read l at zero = []
rows_read l at (suc n) = (from32 l at, packed (position_at l at)) ∷ rows_read l (at + 12) n
