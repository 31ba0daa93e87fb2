-- The number generator and the signature: document 01, "Home and signature". The multiplier is a parameter of every definition.
use Rattle.std.specs.Prelude.{Bool, ◌||◌, List, [], ◌∷◌, ℕ, zero, suc, ◌+◌, ◌-◌, ◌*◌, ◌%◌, ◌^◌, eqb}

-- m = 2,147,483,647
abbrev pub modulus : ℕ
modulus = 2147483647

-- Park and Miller's of 1988 or of 1993
unfoldable pub valid_multiplier : ℕ → Bool
valid_multiplier a = eqb a 16807 || eqb a 48271

-- Xj(K) = a^j·K mod m
unfoldable pub scrambled : ℕ → ℕ → ℕ → ℕ
scrambled a j k = a ^ j * k % modulus

-- 2^k − 1, the greatest separator; every signature is below it
unfoldable pub top_of_lem : ℕ → ℕ
top_of_lem bits = 2 ^ bits - 1

-- signature t of K is X(2t+1) mod (2^k − 1), used on the t-th page probed, t = 1 at home
unfoldable pub signature : ℕ → ℕ → ℕ → ℕ → ℕ
signature a bits k t = scrambled a (2 * t + 1) k % top_of_lem bits

-- n entries, each being the one before times a mod m; p is the one before the first
unfoldable pub chain : ℕ → ℕ → ℕ → List ℕ
chain a p zero = []
chain a p (suc n) = p * a % modulus ∷ chain a (p * a % modulus) n

-- the table of 2,049 multipliers
unfoldable pub multipliers : ℕ → List ℕ
multipliers a = chain a 1 2049
