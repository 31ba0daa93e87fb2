-- The front of a stretch, planned over the words l of stars of the whole stretch. Assumes nothing.
use Rattle.std.specs.Prelude.{◌≡◌, List, [], ℕ, ◌+◌, ◌*◌, ◌≤◌, ◌<◌, length}
use Rattle.pages.specs.Shape.{stretch}
use Rattle.hashing.specs.declared.Parameters.{Parameters}
use Rattle.placement.specs.Rule.{Star, separators}
use Rattle.placement.specs.File.{column, written}
use Rattle.page_plan.specs.Gather.{grouped, stars_in}
use Rattle.page_plan.specs.Plans.{plans, remains}

-- the first r of n pages from page lo are planned; if not all are, the words that stay on them are one fewer than their stars before
pub record Changed (q : Parameters) (lo n : ℕ) (l numbers pool pool' planned planned' : List ℕ) (r : ℕ) : Type 0 where
  pub high : r ≤ n
  pub sources : pool' ≡ written (lo * q.places) (column q.places (λ (s : Star). s.payload.word) (plans q lo 0 r [] l)) pool
  pub separators_are : planned' ≡ written lo (separators (plans q lo 0 r [] l)) planned
  pub fewer : r < n → length (remains q lo 0 r [] l) + stars_in 0 (stretch q.places lo r numbers) ≡ length (grouped lo 0 r l) + 1
