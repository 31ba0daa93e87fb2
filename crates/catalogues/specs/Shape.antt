-- What the code is said by and no promise to a caller cites.
use Rattle.std.specs.Prelude.{Bool, true, false, List, ℕ}
use Rattle.pages.specs.Position.{packed}
use Rattle.fits_table.specs.Rows.{from32, position_at}
use Rattle.catalogues.specs.declared.entries.Effect.{Effect}
use Rattle.catalogues.specs.declared.entries.Effect.TheVariants.{Added, Repeated, Refused, Malformed}
use Rattle.catalogues.specs.Listing.{row_line}

-- of the row at byte `at`
abbrev pub line_at : List ℕ → ℕ → List ℕ
line_at given at = row_line (from32 given at) (packed (position_at given at))

unfoldable pub is_added : Effect → Bool
is_added (Added number word) = true
is_added Repeated = false
is_added (Refused n) = false
is_added Malformed = false
