-- A table as lines, and which input is a table.
-- Assumes nothing.
use Rattle.std.specs.Prelude.{Bool, false, cond, ◌&&◌, List, [], ◌∷◌, ◌++◌, ℕ, ◌+◌, ◌-◌, ◌*◌, eqb, ltb, take, drop}
use Rattle.lines.specs.Replies.{field_bytes, signed_digits}
use Rattle.pages.specs.Page.{empties}
use Rattle.pages.specs.Position.{unpacked}
use Rattle.fits_table.specs.Header.{table_in}
use Rattle.fits_table.specs.Rows.{good_rows, rows_read}
use Rattle.fits_table.specs.declared.cards.Table.{Table}
use Rattle.fits_table.specs.declared.cards.Table.TheVariants.{Rows, Nothing}
use Rattle.catalogues.specs.Runs.{from_lines}

-- a table begins with `S` (of SIMPLE), and no line that is taken does
unfoldable pub is_table : List ℕ → Bool
is_table [] = false
is_table (c ∷ l) = eqb c 83

-- `E number ra dec`
unfoldable pub row_line : ℕ → ℕ → List ℕ
row_line number word =
    (69 ∷ 32 ∷ []) ++ (field_bytes number 32 ++ (field_bytes (unpacked word).ra 32 ++ (signed_digits (unpacked word).dec ++ (10 ∷ []))))

unfoldable pub row_lines : List (ℕ × ℕ) → List ℕ
row_lines [] = []
row_lines (r ∷ rs) = row_line r.0 r.1 ++ row_lines rs

-- `no` refusal, and 0 for a page
unfoldable pub refusal_line : ℕ → List ℕ
refusal_line n = (110 ∷ 111 ∷ 32 ∷ []) ++ (field_bytes n 32 ++ field_bytes 0 10)

-- document 02 (vi): 10 for a header and length that no writer puts out, 11 for a row out of order or range or a non-zero pad
unfoldable pub listed_by : List ℕ → Table → List ℕ
listed_by given Nothing = refusal_line 10
listed_by given (Rows n) =
    cond (good_rows 0 given 5760 n && empties (drop (5760 + 12 * n) given)) (row_lines (rows_read given 5760 n)) (refusal_line 11)

unfoldable pub listed : List ℕ → List ℕ
listed given = listed_by given (table_in given)

-- The same in four parts of at most 8,192 lines; a refusal is the first one.
unfoldable pub least : ℕ → ℕ → ℕ
least a b = cond (ltb a b) a b

unfoldable pub at_first_lem : ℕ → List ℕ → List ℕ
at_first_lem part text = cond (eqb part 0) text []

unfoldable pub part_by : ℕ → List ℕ → Table → List ℕ
part_by part given Nothing = at_first_lem part (refusal_line 10)
part_by part given (Rows n) =
    cond (good_rows 0 given 5760 n && empties (drop (5760 + 12 * n) given))
    (let first = least (8192 * part) n in row_lines (rows_read given (5760 + 12 * first) (least (n - first) 8192)))
    (at_first_lem part (refusal_line 11))

unfoldable pub part_of : ℕ → List ℕ → List ℕ
part_of part given = part_by part given (table_in given)

unfoldable pub in_parts : (ℕ → List ℕ) → List ℕ
in_parts part = part 0 ++ (part 1 ++ (part 2 ++ part 3))

-- the longest table has 400,320 bytes: one byte more tells that the input is none
unfoldable pub kept_table : List ℕ → List ℕ
kept_table l = take 400321 l

-- all that the program puts out for its input
unfoldable pub converted : List ℕ → List ℕ
converted input = cond (is_table input) (listed input) (from_lines input)
