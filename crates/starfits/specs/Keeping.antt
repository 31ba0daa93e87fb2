-- What is kept of a table while it is read, where the input's bytes are known.
use Rattle.std.specs.Prelude.{Option, ℕ, List, ◌++◌, take, ◌≡◌}
use Rattle.std.specs.Io.KnownBytes.{Consumes}
use Rattle.catalogues.specs.Listing.{kept_table}

-- some input was read, and it is kept behind what was kept before, as far as there is room
pub record Keeps (given given_then : List ℕ) (kept kept_then : ℕ) (left left_then : Option (List ℕ)) : Type 0 where
  pub input : List ℕ
  pub read : Consumes left left_then input
  pub holds : take kept_then given_then ≡ kept_table (take kept given ++ input)
