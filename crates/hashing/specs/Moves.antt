-- How the code finds a home in two passes: first the steps that choose the number, then the pages that they give. A step is
-- kept as a code: how often the groups have doubled, times 8, and the group size.
use Rattle.std.specs.Prelude.{cond, List, [], ◌∷◌, ◌++◌, ℕ, zero, suc, ◌+◌, ◌*◌, ◌/◌, ◌%◌, ◌^◌, ◌≤◌, ◌<◌}
use Rattle.hashing.specs.declared.Parameters.{Parameters}
use Rattle.hashing.specs.declared.moves.Landing.{Landing}
use Rattle.hashing.specs.Geometry.{size_at, rank}
use Rattle.hashing.specs.Home.{chosen}

-- the code of step i + 1
unfoldable pub code_at : Parameters → ℕ → ℕ
code_at p i = i / p.width * 8 + size_at p i

-- the codes of those of the first i steps that choose the number
unfoldable pub moves : ℕ → Parameters → ℕ → ℕ → List ℕ
moves a p k zero = []
moves a p k (suc i) = moves a p k i ++ cond (chosen a p k i) (code_at p i ∷ []) []

-- G in a step
unfoldable pub code_count : Parameters → ℕ → ℕ
code_count p code = p.groups * 2 ^ (code / 8)

-- n·G + order
unfoldable pub code_page : Parameters → ℕ → ℕ → ℕ
code_page p code order = code % 8 * code_count p code + order

-- where a step moves a page
unfoldable pub moved_to : Parameters → ℕ → ℕ → ℕ
moved_to p page code = code_page p code (rank p.step (code_count p code) (page % code_count p code))

unfoldable pub followed : Parameters → ℕ → List ℕ → ℕ
followed p page [] = page
followed p page (code ∷ codes) = followed p (moved_to p page code) codes

-- the same from the page with a code and an order, with the code and order of the page that is reached
unfoldable pub landing : Parameters → ℕ → ℕ → List ℕ → Landing
landing p code order [] = record { code = code; order = order }
landing p code order (next ∷ codes) = landing p next (rank p.step (code_count p next) (code_page p code order % code_count p next)) codes

-- neither G nor n·G passes 1,024 in a step
abbrev pub Narrow : Parameters → ℕ → Type 0
Narrow p code = (code_count p code ≤ 1024) × (code % 8 * code_count p code ≤ 1024)

-- the page with a code and an order, below 2,048
abbrev pub Landed : Parameters → ℕ → ℕ → Type 0
Landed p code order = (order < code_count p code) × Narrow p code

-- the doublings of narrow steps do not fall, from low to high
abbrev pub NarrowRising : Parameters → ℕ → List ℕ → ℕ → Type 0
NarrowRising p low [] high = low ≤ high
NarrowRising p low (code ∷ codes) high = ((low ≤ code / 8) × Narrow p code) × NarrowRising p (code / 8) codes high

-- t div s is t times this div 524,288 where t·s is below that
unfoldable pub inverse_of_lem : ℕ → ℕ
inverse_of_lem step = 524288 / step + 1
