-- A list by index.
use Rattle.std.specs.Prelude.{List, [], ◌∷◌, ◌++◌, ℕ, zero, suc, ◌+◌}

-- the list of f at 0 to n − 1
unfoldable pub lanes : ℕ → (ℕ → ℕ) → List ℕ
lanes zero f = []
lanes (suc n) f = lanes n f ++ (f n ∷ [])
