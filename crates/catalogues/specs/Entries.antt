-- What a line of a catalogue does to the rows collected before it: refusals 3 and 4 of an entry (document 01), 6 and the resend of
-- document 02 (v), and 8 for a row that the largest table has no place for.
-- Assumes nothing.
use Rattle.std.specs.Prelude.{Bool, true, false, cond, List, [], ◌∷◌, ◌++◌, ℕ, eqb, ltb, length, take}
use Rattle.lines.specs.declared.Command.{Command}
use Rattle.lines.specs.declared.Command.TheVariants.{Enter, LookUp, Remove, Grow, Bad}
use Rattle.lines.specs.Replies.{field_bytes}
use Rattle.pages.specs.declared.position.Position.{Position}
use Rattle.pages.specs.Position.{valid_number, valid_position, packed}
use Rattle.catalogues.specs.declared.entries.Standing.{Standing}
use Rattle.catalogues.specs.declared.entries.Standing.TheVariants.{New, Same, Other}
use Rattle.catalogues.specs.declared.entries.Effect.{Effect}
use Rattle.catalogues.specs.declared.entries.Effect.TheVariants.{Added, Repeated, Refused, Malformed}

-- two columns as rows (number, word)
unfoldable pub pairs : List ℕ → List ℕ → List (ℕ × ℕ)
pairs [] ws = []
pairs (n ∷ ns) [] = []
pairs (n ∷ ns) (w ∷ ws) = (n, w) ∷ pairs ns ws

-- the rows of the first `count` items of two columns
unfoldable pub rows_held : ℕ → List ℕ → List ℕ → List (ℕ × ℕ)
rows_held count ns ws = pairs (take count ns) (take count ws)

unfoldable pub standing_of : ℕ → ℕ → List (ℕ × ℕ) → Standing
standing_of number word [] = New
standing_of number word (r ∷ rs) = cond (eqb r.0 number) (cond (eqb r.1 word) Same Other) (standing_of number word rs)

-- "An entry of a held star with exactly its stored position is now accepted .. and changes nothing .. Any other position is 6." (v)
unfoldable pub effect_on : Standing → List (ℕ × ℕ) → ℕ → ℕ → Effect
effect_on New rows number word = cond (ltb (length rows) 32768) (Added number word) (Refused 8)
effect_on Same rows number word = Repeated
effect_on Other rows number word = Refused 6

unfoldable pub entry_of : List (ℕ × ℕ) → ℕ → Position → Effect
entry_of rows number position =
    cond (valid_number number)
    (cond (valid_position position) (effect_on (standing_of number (packed position) rows) rows number (packed position)) (Refused 4))
    (Refused 3)

-- only lines `E number ra dec` belong in a catalogue
unfoldable pub effect_of : List (ℕ × ℕ) → Command → Effect
effect_of rows (Enter number ra dec) = entry_of rows number (record { ra = ra; dec = dec })
effect_of rows (LookUp number) = Malformed
effect_of rows (Remove number) = Malformed
effect_of rows Grow = Malformed
effect_of rows Bad = Malformed

unfoldable pub added_to : List (ℕ × ℕ) → Effect → List (ℕ × ℕ)
added_to rows (Added number word) = rows ++ ((number, word) ∷ [])
added_to rows Repeated = rows
added_to rows (Refused n) = rows
added_to rows Malformed = rows

unfoldable pub is_refusal_lem : Effect → Bool
is_refusal_lem (Added number word) = false
is_refusal_lem Repeated = false
is_refusal_lem (Refused n) = true
is_refusal_lem Malformed = true

-- `no` refusal line, `bad` line; nothing for a line that is taken
unfoldable pub effect_text : ℕ → Effect → List ℕ
effect_text line (Added number word) = []
effect_text line Repeated = []
effect_text line (Refused n) = (110 ∷ 111 ∷ 32 ∷ []) ++ (field_bytes n 32 ++ field_bytes line 10)
effect_text line Malformed = (98 ∷ 97 ∷ 100 ∷ 32 ∷ []) ++ field_bytes line 10
