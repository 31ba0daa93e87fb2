-- A test as a number, for counts.
use Rattle.std.specs.Prelude.{Bool, cond, ℕ}

-- 1 if so, else 0
abbrev pub one : Bool → ℕ
one t = cond t 1 0
