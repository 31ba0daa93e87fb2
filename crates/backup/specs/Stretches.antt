-- Which pages a growth may alter: document 02 (xiv), "On a clean file growth alters nothing outside these stretches: from each page of the
-- expanded group to the first page at or above it whose separator was 2^k − 1, and from the new page to the first at or above it whose
-- separator is 2^k − 1 both before and after, or to page M−1 where there is none."
use Rattle.std.specs.Prelude.{Bool, false, ◌&&◌, ◌||◌, List, ℕ, zero, suc, ◌-◌, eqb, get_or}
use Rattle.hashing.specs.declared.Parameters.{Parameters}
use Rattle.hashing.specs.declared.Growth.{Growth}
use Rattle.generator.specs.Generator.{top_of_lem}
use Rattle.hashing.specs.Geometry.{page_count}
-- "page of the expanded group"
unfoldable pub use Rattle.hashing.specs.Geometry.{expands}
use Rattle.hashing.specs.Limits.{within}
use Rattle.reach.specs.Reach.{first_such}

-- a page's separator is 2^k − 1
unfoldable pub top_at : Parameters → List ℕ → ℕ → Bool
top_at p separators q = eqb (get_or separators q 0) (top_of_lem p.bits)

-- ".. both before and after"
unfoldable pub top_twice : Parameters → List ℕ → List ℕ → ℕ → Bool
top_twice p before after q = top_at p before q && top_at p after q

-- "to the first page at or above it" that passes the test, "or to page M−1 where there is none"
unfoldable pub end_from : Parameters → (ℕ → Bool) → ℕ → ℕ
end_from p test q = first_such test q (p.pages - 1 - q)

-- the page lies in the stretch from page q to there
unfoldable pub in_stretch : Parameters → (ℕ → Bool) → ℕ → ℕ → Bool
in_stretch p test q page = within q page (end_from p test q)

-- one of the n numbers below n passes the test
unfoldable pub any_below : (ℕ → Bool) → ℕ → Bool
any_below test zero = false
any_below test (suc n) = any_below test n || test n

-- the page lies in a stretch of the expanded group's pages
unfoldable pub near_group : Parameters → Growth → List ℕ → ℕ → Bool
near_group p g before page = any_below (λ (q : ℕ). expands p g q && in_stretch p (top_at p before) q page) p.pages

-- .. or in that of the new page, n·G + x
unfoldable pub may_change : Parameters → Growth → List ℕ → List ℕ → ℕ → Bool
may_change p g before after page = near_group p g before page || in_stretch p (top_twice p before after) (page_count p g) page
