-- The home page of a star: document 01, "Home and signature".
use Rattle.std.specs.Prelude.{Bool, ◌&&◌, ◌||◌, cond, ℕ, zero, suc, ◌+◌, ◌*◌, ◌%◌, leb, ltb}
use Rattle.hashing.specs.declared.Parameters.{Parameters}
use Rattle.hashing.specs.declared.Growth.{Growth}
use Rattle.generator.specs.Generator.{modulus, scrambled}
use Rattle.hashing.specs.Geometry.{size_at, count_at_lem, rank}

-- rank(g) of the group g = page mod G after i partial expansions
unfoldable pub rank_at : Parameters → ℕ → ℕ → ℕ
rank_at p i page = rank p.step (count_at_lem p i) (page % count_at_lem p i)

-- X(2i)·(n+1) is at most m, in step i + 1
unfoldable pub chosen : ℕ → Parameters → ℕ → ℕ → Bool
chosen a p k i = leb (scrambled a (2 * suc i) k * (size_at p i + 1)) modulus

-- step i + 1 is over, or is the present one and has reached the group
unfoldable pub expanded_at : Parameters → Growth → ℕ → ℕ → Bool
expanded_at p g i page = leb (suc i) g.expansions || ltb (rank_at p i page) g.expanded

-- a becomes n·G + rank(g) where the test holds, and else stays
abbrev pub moved_if : Parameters → ℕ → ℕ → Bool → ℕ
moved_if p i page t = cond t (size_at p i * count_at_lem p i + rank_at p i page) page

-- step i + 1
unfoldable pub step_from : ℕ → Parameters → Growth → ℕ → ℕ → ℕ → ℕ
step_from a p g k i page = moved_if p i page (chosen a p k i && expanded_at p g i page)

-- the page after i steps: start with a = X1 mod (n0·N)
unfoldable pub after_steps : ℕ → Parameters → Growth → ℕ → ℕ → ℕ
after_steps a p g k zero = scrambled a 1 k % (p.width * p.groups)
after_steps a p g k (suc i) = step_from a p g k i (after_steps a p g k i)

-- for i = 1 to e + 1
unfoldable pub home : ℕ → Parameters → Growth → ℕ → ℕ
home a p g k = after_steps a p g k (g.expansions + 1)
