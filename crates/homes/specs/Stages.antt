-- What a step and a sweep need, prepared.
use Rattle.std.specs.Prelude.{Bool, true, false, cond, ◌≡◌, ℕ, suc, ◌+◌, ◌*◌, ◌/◌, ◌%◌, ◌≤◌, leb, ltb}
use Rattle.hashing.specs.declared.Parameters.{Parameters}
use Rattle.hashing.specs.declared.Growth.{Growth}
use Rattle.generator.specs.Generator.{modulus}
use Rattle.generator.specs.Shape.{power}
use Rattle.hashing.specs.Geometry.{multiplier_of, size_at, count_at_lem}
use Rattle.homes.specs.declared.stages.Stage.{Stage}
use Rattle.homes.specs.declared.stages.Sweep.{Sweep}
use Rattle.homes.specs.declared.stages.Test.{Test}

-- n, G, G div s and G mod s after i partial expansions
unfoldable pub stage_at : Parameters → ℕ → Stage
stage_at p i =
    record { size = size_at p i; count = count_at_lem p i; part = count_at_lem p i / p.step; rest = count_at_lem p i % p.step }

-- an inverse of s, rounded down, in 16 bits
unfoldable pub sweep_by_lem : Bool → ℕ → Sweep
sweep_by_lem true s = record { step = s; inverse = 65535 / s; shift = 0 }
sweep_by_lem false s = record { step = s; inverse = 262143 / s; shift = 2 }

unfoldable pub sweep_of : ℕ → Sweep
sweep_of s = sweep_by_lem (leb s 64) s

-- ranks below this move: all, and x in the present partial expansion
unfoldable pub limit_at : Parameters → Growth → ℕ → ℕ
limit_at p g i = cond (ltb i g.expansions) (count_at_lem p i) g.expanded

-- the multiplier of step i + 1, the greatest number that it chooses, and its limit
unfoldable pub test_at : Parameters → Growth → ℕ → Test
test_at p g i =
    record { factor = power (multiplier_of p) (2 * suc i); most = modulus / (size_at p i + 1); limit = limit_at p g i }

-- what ranking needs
pub record Rankable (sweep : Sweep) (stage : Stage) : Type 0 where
  pub sweep_is : sweep ≡ sweep_of sweep.step
  pub step_least : 1 ≤ sweep.step
  pub step_most : sweep.step ≤ 256
  pub step_count : sweep.step ≤ stage.count
  pub count_most : stage.count ≤ 1024
  pub size-least : 1 ≤ stage.size
  pub size-most : stage.size ≤ 7
  pub part-is : stage.part ≡ stage.count / sweep.step
  pub rest-is : stage.rest ≡ stage.count % sweep.step
