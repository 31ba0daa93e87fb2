-- What a line of starline's input means (document 01, "Host and program"). A line is the list of its bytes, without the newline that ends it.
use Rattle.std.specs.Prelude.{ℕ, ◌+◌, ◌-◌, ◌*◌, Bool, true, false, cond, ◌&&◌, List, [], ◌∷◌, ◌++◌, leb, ltb, eqb, pos, neg_ℤ, take}
use Rattle.lines.specs.declared.Command.{Command}
use Rattle.lines.specs.declared.Command.TheVariants.{Enter, LookUp, Remove, Grow, Bad}
use Rattle.lines.specs.declared.Natural.{Natural}
use Rattle.lines.specs.declared.Natural.TheVariants.{Of, Wrong}
use Rattle.lines.specs.declared.Declination.{Declination}
use Rattle.lines.specs.declared.Declination.TheVariants.{At, Nowhere}
use Rattle.lines.specs.declared.Line.{Line}

-- a byte in front of the first of the fields
unfoldable pub in_first : ℕ → List (List ℕ) → List (List ℕ)
in_first c [] = (c ∷ []) ∷ []
in_first c (f ∷ fs) = (c ∷ f) ∷ fs

-- "single blanks": the fields of a line lie between its blanks (byte 32), so that a leading, trailing or double blank makes an empty field
unfoldable pub fields : List ℕ → List (List ℕ)
fields [] = [] ∷ []
fields (c ∷ l) = cond (eqb c 32) ([] ∷ fields l) (in_first c (fields l))

-- `0` to `9`
unfoldable pub is_digit : ℕ → Bool
is_digit c = leb 48 c && leb c 57

unfoldable pub all_digits : List ℕ → Bool
all_digits [] = true
all_digits (c ∷ l) = is_digit c && all_digits l

unfoldable pub no_bytes : List ℕ → Bool
no_bytes [] = true
no_bytes (c ∷ l) = false

-- "base-ten fields without leading zeros": `0` alone, or digits of which the first is not `0`
unfoldable pub is_decimal : List ℕ → Bool
is_decimal [] = false
is_decimal (c ∷ l) = cond (eqb c 48) (no_bytes l) (all_digits (c ∷ l))

-- the number that digits spell after v, whatever its size
unfoldable pub value_from : ℕ → List ℕ → ℕ
value_from v [] = v
value_from v (c ∷ l) = value_from (10 * v + (c - 48)) l

abbrev pub value : List ℕ → ℕ
value f = value_from 0 f

-- a field that spells a number of at most `most`
unfoldable pub is_up_to : ℕ → List ℕ → Bool
is_up_to most f = is_decimal f && leb (value f) most

-- number and ra: 32 bits
unfoldable pub natural_of : List ℕ → Natural
natural_of f = cond (is_up_to 4294967295 f) (Of (value f)) Wrong

-- dec: signed 32 bits, "a minus only before a non-zero dec" (byte 45)
unfoldable pub declination_of : List ℕ → Declination
declination_of [] = Nowhere
declination_of (c ∷ f) =
    cond (eqb c 45)
    (cond (is_up_to 2147483648 f && ltb 0 (value f)) (At (neg_ℤ (pos (value f)))) Nowhere)
    (cond (is_up_to 2147483647 (c ∷ f)) (At (pos (value (c ∷ f)))) Nowhere)

unfoldable pub enter_with : Natural → Natural → Declination → Command
enter_with Wrong ra dec = Bad
enter_with (Of number) Wrong dec = Bad
enter_with (Of number) (Of ra) Nowhere = Bad
enter_with (Of number) (Of ra) (At dec) = Enter number ra dec

-- `E number ra dec`, after its letter
unfoldable pub enter_from : List (List ℕ) → Command
enter_from [] = Bad
enter_from (number ∷ []) = Bad
enter_from (number ∷ ra ∷ []) = Bad
enter_from (number ∷ ra ∷ dec ∷ []) = enter_with (natural_of number) (natural_of ra) (declination_of dec)
enter_from (number ∷ ra ∷ dec ∷ more ∷ l) = Bad

unfoldable pub number_with : (ℕ → Command) → Natural → Command
number_with make Wrong = Bad
number_with make (Of number) = make number

-- `L number` or `R number`, after its letter
unfoldable pub number_from : (ℕ → Command) → List (List ℕ) → Command
number_from make [] = Bad
number_from make (number ∷ []) = number_with make (natural_of number)
number_from make (number ∷ more ∷ l) = Bad

-- `G`, after its letter
unfoldable pub grow_from : List (List ℕ) → Command
grow_from [] = Grow
grow_from (more ∷ l) = Bad

-- the byte of a field of one byte; 0, which is no letter, of any other
unfoldable pub letter_of : List ℕ → ℕ
letter_of [] = 0
letter_of (c ∷ []) = c
letter_of (c ∷ d ∷ l) = 0

-- by the letter E, L, R or G of the first field, from the fields after it
unfoldable pub by_letter : ℕ → List (List ℕ) → Command
by_letter c fs =
    cond (eqb c 69) (enter_from fs)
    (cond (eqb c 76) (number_from LookUp fs) (cond (eqb c 82) (number_from Remove fs) (cond (eqb c 71) (grow_from fs) Bad)))

unfoldable pub by_fields : List (List ℕ) → Command
by_fields [] = Bad
by_fields (f ∷ fs) = by_letter (letter_of f) fs

-- the meaning of a line; "any other line, or a field beyond 32 bits" is Bad
unfoldable pub command_of : List ℕ → Command
command_of l = by_fields (fields l)

-- the lines of the input after the bytes `begun` of one: a newline (byte 10) ends a line, and "the last line may lack it" unless it is empty
unfoldable pub lines_from : List ℕ → List ℕ → List (List ℕ)
lines_from begun [] = cond (no_bytes begun) [] (begun ∷ [])
lines_from begun (c ∷ l) = cond (eqb c 10) (begun ∷ lines_from [] l) (lines_from (begun ++ (c ∷ [])) l)

abbrev pub lines_of : List ℕ → List (List ℕ)
lines_of input = lines_from [] input

-- what is kept of a line while it is read: enough to tell that it is too long for a command
unfoldable pub kept : List ℕ → List ℕ
kept l = take 65 l

-- the bytes that a Line holds
unfoldable pub line_bytes : Line → List ℕ
line_bytes line = kept (take line.length line.bytes)
