-- The two headers of a FITS file with an empty primary array and one binary table (FITS Standard 4.0, 4.1, 4.2, 4.4.1, 7.3.1), byte by byte.
-- Assumes nothing.
use Rattle.std.specs.Prelude.{Bool, true, false, cond, ◌&&◌, List, [], ◌∷◌, ◌++◌, ℕ, zero, suc, ◌+◌, ◌-◌, ◌*◌, ◌/◌, ◌%◌, leb, ltb, eqb, length, take, drop, replicate}
use Prim.Native.String.{String, [] as no_text, ◌∷◌ as ◌then◌}
use Prim.Native.Char.{code}
use Rattle.buffers.specs.Lists.{alike}
use Rattle.fits_table.specs.declared.cards.Table.{Table}
use Rattle.fits_table.specs.declared.cards.Table.TheVariants.{Rows, Nothing}

unfoldable pub ascii : String → List ℕ
ascii no_text = []
ascii (c then s) = code c ∷ ascii s

abbrev pub blanks : ℕ → List ℕ
blanks n = replicate n 32

-- "80-character cards", blanks behind
unfoldable pub card : String → List ℕ
card s = ascii s ++ blanks (80 - length (ascii s))

unfoldable pub cards : List String → List ℕ
cards [] = []
cards (s ∷ l) = card s ++ cards l

-- "empty primary header (BITPIX 8, EXTEND T)", "only the Standard's mandatory ones in its order, with EXTEND after NAXIS"
abbrev pub primary : List String
primary =
    "SIMPLE  =                    T"
    ∷ "BITPIX  =                    8"
    ∷ "NAXIS   =                    0"
    ∷ "EXTEND  =                    T"
    ∷ "END"
    ∷ []

-- the table's cards before NAXIS2's value, and after it: "one BINTABLE with three columns of form 1J", "TFORM1 to TFORM3 after TFIELDS"
abbrev pub table_first : List String
table_first =
    "XTENSION= 'BINTABLE'"
    ∷ "BITPIX  =                    8"
    ∷ "NAXIS   =                    2"
    ∷ "NAXIS1  =                   12"
    ∷ []

abbrev pub table_last : List String
table_last =
    "PCOUNT  =                    0"
    ∷ "GCOUNT  =                    1"
    ∷ "TFIELDS =                    3"
    ∷ "TFORM1  = '1J      '"
    ∷ "TFORM2  = '1J      '"
    ∷ "TFORM3  = '1J      '"
    ∷ "END"
    ∷ []

-- n's digits in `width` columns, right-justified, blanks before the first digit; no digit of 0
unfoldable pub leading : ℕ → ℕ → List ℕ
leading zero n = []
leading (suc width) n = leading width (n / 10) ++ (cond (eqb n 0) 32 (48 + n % 10) ∷ [])

-- the value field of columns 11 to 30: n right-justified without leading zeros
unfoldable pub field : ℕ → List ℕ
field n = leading 19 (n / 10) ++ ((48 + n % 10) ∷ [])

-- "blanks fill the headers": each is one block of 36 cards. The bytes up to NAXIS2's value, and those behind it
unfoldable pub front : List ℕ
front = cards primary ++ (blanks (31 * 80) ++ (cards table_first ++ ascii "NAXIS2  = "))

unfoldable pub behind : List ℕ
behind = blanks 50 ++ (cards table_last ++ blanks (24 * 80))

-- both headers, of a table of `rows` rows
unfoldable pub headers : ℕ → List ℕ
headers rows = front ++ (field rows ++ behind)

-- a digit read after `value`; other bytes count for nothing, and a value above 32,768 stays
unfoldable pub digit_step_lem : ℕ → ℕ → ℕ
digit_step_lem value byte =
    cond (ltb 32768 value) value (cond (ltb byte 48) value (cond (ltb 57 byte) value (10 * value + (byte - 48))))

unfoldable pub read_digits : ℕ → List ℕ → ℕ
read_digits value [] = value
read_digits value (b ∷ l) = read_digits (digit_step_lem value b) l

-- what the bytes of NAXIS2's field would mean
unfoldable pub candidate : List ℕ → ℕ
candidate given = read_digits 0 (take 20 (drop 3210 given))

-- "blocks of 2,880 bytes": the data's, and the whole table's length
abbrev pub blocks_of : ℕ → ℕ
blocks_of n = (n + 2879) / 2880 * 2880

abbrev pub table_length : ℕ → ℕ
table_length rows = 5760 + blocks_of (12 * rows)

-- the given bytes begin with the headers of `rows` rows, at most 32,768, and have that table's length
unfoldable pub tells : List ℕ → ℕ → Bool
tells given rows = leb rows 32768 && (alike (take 5760 given) (headers rows) && eqb (length given) (table_length rows))

abbrev pub answer : Bool → ℕ → Table
answer true rows = Rows rows
answer false rows = Nothing

-- "a header and length that the writer can't produce together", or the number of rows
unfoldable pub table_in : List ℕ → Table
table_in given = answer (leb 5760 (length given) && tells given (candidate given)) (candidate given)
