-- A table's rows as stars, and what placing them leaves.
use Rattle.std.specs.Prelude.{◌≡◌, Bool, cond, List, map, ℕ}
use Rattle.hashing.specs.declared.Geometry.{Geometry}
use Rattle.placement.specs.Rule.{Star, left, star_with}
use Rattle.placement.specs.File.{File, laid}
use Rattle.placement.specs.Hash.{hash_of}
use Rattle.reach.specs.Reach.{is_empty}
use Rattle.fits_table.specs.Rows.{rows_read}

-- the rows as stars of owner 0
abbrev pub row_stars : List ℕ → ℕ → List Star
row_stars given n = map (λ (r : ℕ × ℕ). star_with r.0 r.1 0) (rows_read given 5760 n)

-- "replaces the lent file by these stars", or leaves it
pub record Places (g : Geometry) (given : List ℕ) (n : ℕ) (f f' : File) (r : Bool) : Type 0 where
  pub fits : r ≡ is_empty (left (hash_of g.parameters g.growth) 0 g.parameters.pages (row_stars given n))
  pub file : f' ≡ cond r (laid g.parameters.places (hash_of g.parameters g.growth) g.parameters.pages (row_stars given n)) f
