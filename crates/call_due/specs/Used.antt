-- What the scan for the last non-zero number keeps and finds.
use Rattle.std.specs.Prelude.{◌≡◌, List, ℕ, ◌-◌, ◌≤◌, ◌<◌, length, get_or, drop}
use Rattle.calls.specs.Due.{stars}

-- from item n on every number is 0
pub record Blank (l : List ℕ) (n : ℕ) : Type 0 where
  pub within : n ≤ length l
  pub rest : stars (drop n l) ≡ 0

-- and the number before item n is not, unless n is no further than `split`
pub record Reaches (l : List ℕ) (split n : ℕ) : Type 0 where
  pub blank : Blank l n
  pub last : split < n → get_or l (n - 1) 0 ≡ 0 → ⊥

-- and the number before item n is not
pub record Used (l : List ℕ) (n : ℕ) : Type 0 where
  pub blank : Blank l n
  pub last : 0 < n → get_or l (n - 1) 0 ≡ 0 → ⊥
