-- The cascading entry beside the present one: document 02 (ix).
use Rattle.std.specs.Prelude.{◌≡◌, ℕ}
use Rattle.hashing.specs.declared.Parameters.{Parameters}
use Rattle.hashing.specs.declared.Growth.{Growth}
use Rattle.pages.specs.declared.position.Position.{Position}
use Rattle.placement.specs.File.{File}
use Rattle.calls.specs.Answers.{Pool}
use Rattle.calls.specs.Calls.{check_of, enter_of, cascade_of}

-- "On every clean file, separators, pages and answers are those of the present entry": and all else that a call leaves
abbrev pub CascadeIsEntry : Type 0
CascadeIsEntry =
    (p : Parameters) (g : Growth) (f : File) (pool : Pool) → (check_of p g f pool).answer.refusal ≡ 0
    → (lent : Pool) (caller k : ℕ) (q : Position) → cascade_of p g f lent caller k q ≡ enter_of p g f lent caller k q
