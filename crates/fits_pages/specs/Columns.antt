-- A table's rows as columns of numbers and words, and what placing them leaves.
use Rattle.std.specs.Prelude.{◌≡◌, Bool, true, List, [], ◌∷◌, map, ℕ, suc, length, take, replicate}
use Rattle.hashing.specs.declared.Geometry.{Geometry}
use Rattle.placement.specs.Rule.{Star, pages, left, separators}
use Rattle.placement.specs.File.{column}
use Rattle.placement.specs.Hash.{hash_of}
use Rattle.placement.specs.Shape.{home_under}
use Rattle.reach.specs.Reach.{is_empty}
use Rattle.page_plan.specs.Keys.{star_key_lem}
use Rattle.plan_transfer.specs.Sources.{named_item}
use Rattle.fits_table.specs.Rows.{rows_read}
use Rattle.fits_pages.specs.Placed.{row_stars}

-- the rows' numbers and words
abbrev pub numbers_read : List ℕ → ℕ → List ℕ
numbers_read given n = map (λ (r : ℕ × ℕ). r.0) (rows_read given 5760 n)

abbrev pub words_read : List ℕ → ℕ → List ℕ
words_read given n = map (λ (r : ℕ × ℕ). r.1) (rows_read given 5760 n)

-- keys of homes and sources, rows counted from `at`; a source is a row plus 1
unfoldable pub keys_from : ℕ → List ℕ → List ℕ
keys_from at [] = []
keys_from at (h ∷ hs) = star_key_lem h (suc at) ∷ keys_from (suc at) hs

abbrev pub homes_read : Geometry → List ℕ → ℕ → List ℕ
homes_read g given n = map (home_under g) (numbers_read given n)

abbrev pub row_keys : Geometry → List ℕ → ℕ → List ℕ
row_keys g given n = keys_from 0 (homes_read g given n)

-- What planning the rows leaves: whether all of them fit, and then the sources and separators of the rule's pages.
pub record PlansRows (g : Geometry) (given : List ℕ) (n : ℕ) (pool planned : List ℕ) (r : Bool) : Type 0 where
  pub fits : r ≡ is_empty (left (hash_of g.parameters g.growth) 0 g.parameters.pages (row_stars given n))
  pub numbers : r ≡ true → map (named_item (numbers_read given n) 0) pool
      ≡ column g.parameters.places (λ (s : Star). s.number) (pages (hash_of g.parameters g.growth) 0 g.parameters.pages (row_stars given n))
  pub words : r ≡ true → map (named_item (words_read given n) 0) pool
      ≡ column g.parameters.places (λ (s : Star). s.payload.word) (pages (hash_of g.parameters g.growth) 0 g.parameters.pages (row_stars given n))
  pub owners : r ≡ true → replicate (length pool) 0
      ≡ column g.parameters.places (λ (s : Star). s.payload.owner) (pages (hash_of g.parameters g.growth) 0 g.parameters.pages (row_stars given n))
  pub planned_are : r ≡ true
      → take g.parameters.pages planned ≡ separators (pages (hash_of g.parameters g.growth) 0 g.parameters.pages (row_stars given n))
