-- Growth and shrinking undo each other: document 02 (i).
use Rattle.std.specs.Prelude.{◌≡◌, true}
use Rattle.hashing.specs.declared.Parameters.{Parameters}
use Rattle.hashing.specs.declared.Growth.{Growth}
use Rattle.placement.specs.File.{File}
use Rattle.calls.specs.Answers.{Pool, After}
use Rattle.calls.specs.Calls.{pool_fits_lem, grow_of, shrink_of, check_of}

-- the second of two calls is accepted with the first one's page, and growth state, separators and pages are those from before both
pub record Restores (g : Growth) (f : File) (first second : After) : Type 0 where
  pub answer : second.answer ≡ first.answer
  pub growth : second.growth ≡ g
  pub separators : second.file.separators ≡ f.separators
  pub numbers : second.file.numbers ≡ f.numbers
  pub words : second.file.words ≡ f.words
  pub owners : second.file.owners ≡ f.owners

-- a call that needs no more than the lent file and a pool
abbrev pub WholeCall : Type 0
WholeCall = Parameters → Growth → File → Pool → After

-- where the first call is accepted, the other, lent what it left and a pool of the right lengths, is accepted too and restores the file
abbrev pub Returns : WholeCall → WholeCall → Parameters → Growth → File → Type 0
Returns one other p g f =
    (pool again : Pool) → pool_fits_lem p again ≡ true → (one p g f pool).answer.refusal ≡ 0
    → Restores g f (one p g f pool) (other p (one p g f pool).growth (one p g f pool).file again)

-- "On a file that the check accepts (a clean file)"
abbrev pub OnClean : WholeCall → WholeCall → Type 0
OnClean one other =
    (p : Parameters) (g : Growth) (f : File) (pool : Pool) → (check_of p g f pool).answer.refusal ≡ 0 → Returns one other p g f

pub record RoundTrips : Type 0 where
  -- "an accepted growth then a shrink restores separators and pages"
  pub growth_then_shrink : OnClean grow_of shrink_of
  -- "as does an accepted shrink then a growth"
  pub shrink_then_growth : OnClean shrink_of grow_of
