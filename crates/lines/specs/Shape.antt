-- What the code is said by and no promise to a caller cites.
use Rattle.std.specs.Prelude.{ℕ, zero, suc, cond, List, [], ◌∷◌, eqb}
use Rattle.lines.specs.Grammar.{no_bytes}

-- how many bytes stand before the first blank
unfoldable pub field_length : List ℕ → ℕ
field_length [] = zero
field_length (c ∷ l) = cond (eqb c 32) zero (suc (field_length l))

-- the newline (byte 10) that the last line of an input lacks
unfoldable pub lacked_by : List ℕ → List ℕ
lacked_by begun = cond (no_bytes begun) [] (10 ∷ [])
