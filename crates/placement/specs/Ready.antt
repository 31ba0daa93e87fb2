-- What the work below the calls needs of the table, the parameters, the growth state and the lent buffers: a call refuses with 1 or 2 where it is not so.
use Rattle.std.specs.Prelude.{◌≡◌, true, List, ℕ, ◌*◌, ◌≤◌, length}
use Rattle.hashing.specs.declared.Parameters.{Parameters}
use Rattle.hashing.specs.declared.Geometry.{Geometry}
use Rattle.generator.specs.Generator.{chain}
use Rattle.generator.specs.Shape.{first_multipliers_lem}
use Rattle.hashing.specs.Geometry.{multiplier_of}
use Rattle.hashing.specs.Limits.{valid_parameters, valid_growth}
use Rattle.placement.specs.File.{File}
use Rattle.placement.specs.Shape.{Sized}

-- for signatures: the table is that of the parameters' own multiplier, its first ninety entries or more, and the parameters are valid
pub record Signers (p : Parameters) (t : List ℕ) : Type 0 where
  pub table : t ≡ chain (multiplier_of p) 1 (length t)
  pub long : 90 ≤ length t
  pub valid : valid_parameters p ≡ true

-- for homes and the naming of pages, which need the table's first ninety: the growth state is valid too
pub record Homing (g : Geometry) (t : List ℕ) : Type 0 where
  pub table : t ≡ first_multipliers_lem (multiplier_of g.parameters)
  pub valid : valid_parameters g.parameters ≡ true
  pub growth : valid_growth g.parameters g.growth ≡ true

-- for pages: the file is as long as the parameters say
pub record Ready (g : Geometry) (t : List ℕ) (f : File) : Type 0 where
  pub homing : Homing g t
  pub sized : Sized g.parameters.places g.parameters.pages f

-- for placing stars: so is the pool
pub record Pooled (p : Parameters) (numbers words owners : List ℕ) : Type 0 where
  pub of_numbers : length numbers ≡ p.pages * p.places
  pub of_words_lem : length words ≡ p.pages * p.places
  pub of_owners : length owners ≡ p.pages * p.places
