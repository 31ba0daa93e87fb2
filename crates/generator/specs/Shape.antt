-- What the code is said by and no promise to a caller cites.
use Rattle.std.specs.Prelude.{List, ℕ, ◌%◌, ◌^◌}
use Rattle.generator.specs.Generator.{modulus, chain}

-- the j-th multiplier of the table: a^j mod m
unfoldable pub power : ℕ → ℕ → ℕ
power a j = a ^ j % modulus

-- its first ninety: homes need X1, and X(2i) for up to 33 steps; the first 44 pages probed need X(2t+1)
unfoldable pub first_multipliers_lem : ℕ → List ℕ
first_multipliers_lem a = chain a 1 90
