-- Eight numbers at once: a list by its places, and what becomes of each place.
use Rattle.std.specs.Prelude.{cond, List, ◌≡◌, ℕ, ◌+◌, ◌*◌, ◌/◌, ◌%◌, ◌<◌, leb, eqb, get_or}
use Rattle.hashing.specs.declared.Parameters.{Parameters}
use Rattle.hashing.specs.declared.Growth.{Growth}
use Rattle.hashing.specs.declared.Geometry.{Geometry}
use Rattle.generator.specs.Generator.{modulus}
use Rattle.hashing.specs.Geometry.{multiplier_of, size_at, count_at_lem, rank}
use Rattle.hashing.specs.Home.{after_steps}
use Rattle.homes.specs.declared.stages.Stage.{Stage}
use Rattle.homes.specs.declared.stages.Sweep.{Sweep}
use Rattle.homes.specs.Indexed.{lanes}

-- the eight items of a list from `at` on
unfoldable pub block_at : List ℕ → ℕ → List ℕ
block_at l at = lanes 8 (λ i. get_or l (at + i) 0)

-- what holds of each block of a page's places
abbrev pub Blocks : ℕ → (ℕ → Type 0) → Type 0
Blocks places holds = (at : ℕ) → at % 8 ≡ 0 → at < places → holds at

-- a number at most 2^31 with the remainder of K by m
unfoldable pub residue_of : ℕ → ℕ
residue_of k = k / 2147483648 + k % 2147483648

unfoldable pub keys_at : List ℕ → ℕ → List ℕ
keys_at numbers at = lanes 8 (λ i. residue_of (get_or numbers (at + i) 0))

-- each of the eight places holds less than n
abbrev pub Under : ℕ → List ℕ → Type 0
Under n l = (i : ℕ) → i < 8 → get_or l i 0 < n

-- the eight are at most 2^31, so that sums of halves of products with them fit 32 bits
abbrev pub Keys : List ℕ → Type 0
Keys keys = Under 2147483649 keys

-- 1 where factor·K mod m is at most `most`
unfoldable pub hit_of : ℕ → ℕ → ℕ → ℕ
hit_of factor most k = cond (leb (factor * k % modulus) most) 1 0

-- to first + order where hit, with an order below the limit
unfoldable pub moved_by_lem : ℕ → ℕ → ℕ → ℕ → ℕ → ℕ
moved_by_lem limit first hit order old = cond (eqb hit 0) old (cond (leb limit order) old (first + order))

-- the keys of a page's numbers from `at` on
abbrev pub KeysOf : List ℕ → ℕ → List ℕ → Type 0
KeysOf numbers at keys = (keys ≡ keys_at numbers at) × Keys keys

-- one step of eight numbers: of their groups with first 0, of their pages with first n·G
unfoldable pub stepped : ℕ → Sweep → Stage → ℕ → ℕ → List ℕ → List ℕ → List ℕ → List ℕ
stepped factor sweep stage limit first keys groups old =
    lanes 8 (λ i. moved_by_lem limit first
    (hit_of factor (modulus / (stage.size + 1)) (get_or keys i 0))
    (rank sweep.step stage.count (get_or groups i 0))
    (get_or old i 0))

-- the pages of eight numbers after i steps
unfoldable pub pages_after_lem : ℕ → Parameters → Growth → List ℕ → ℕ → List ℕ
pages_after_lem a p g keys i = lanes 8 (λ j. after_steps a p g (get_or keys j 0) i)

-- and their groups among count groups
unfoldable pub groups_after_lem : ℕ → Parameters → Growth → List ℕ → ℕ → ℕ → List ℕ
groups_after_lem a p g keys i count = lanes 8 (λ j. after_steps a p g (get_or keys j 0) i % count)

-- the groups are known, except at the start and where they have just doubled
abbrev pub Grouped : ℕ → Parameters → Growth → List ℕ → ℕ → List ℕ → Type 0
Grouped a p g keys i groups = (size_at p i ≡ p.width → ⊥) → groups ≡ groups_after_lem a p g keys i (count_at_lem p i)

-- the same of a page's block at `at`
abbrev pub PagedAt : Geometry → List ℕ → ℕ → List ℕ → ℕ → Type 0
PagedAt geometry keys i pages at =
    block_at pages at ≡ pages_after_lem (multiplier_of geometry.parameters) geometry.parameters geometry.growth (block_at keys at) i

abbrev pub GroupedAt : Geometry → List ℕ → ℕ → List ℕ → ℕ → Type 0
GroupedAt geometry keys i groups at =
    Grouped (multiplier_of geometry.parameters) geometry.parameters geometry.growth (block_at keys at) i (block_at groups at)

abbrev pub RegroupedAt : Geometry → List ℕ → ℕ → List ℕ → ℕ → Type 0
RegroupedAt geometry keys i groups at =
    block_at groups at
    ≡ groups_after_lem (multiplier_of geometry.parameters) geometry.parameters geometry.growth (block_at keys at) (i + 1) (count_at_lem geometry.parameters i)
