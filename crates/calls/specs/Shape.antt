-- What the code is said by and no promise to a caller cites.
use Rattle.std.specs.Prelude.{◌≡◌, Bool, List, ℕ, ◌+◌}
use Rattle.hashing.specs.declared.Growth.{Growth}
use Rattle.placement.specs.File.{File}
use Rattle.calls.specs.declared.answers.Answer.{Answer}
use Rattle.std.specs.Prelude.{Result, Ok, Err}
use Rattle.calls.specs.declared.answers.Refusal.{Refusal}
use Rattle.hashing.specs.declared.Parameters.{Parameters}
use Rattle.calls.specs.Answers.{After, refusal_number}
use Rattle.calls.specs.Spots.{first_spot, ruled}
use Rattle.hashing.specs.Geometry.{highest, multiplier_of}
use Rattle.generator.specs.Shape.{first_multipliers_lem}
use Rattle.placement.specs.Ready.{Ready}
use Rattle.calls.specs.Stores.{stored_file, store_order, stopped_after}
use Rattle.calls.specs.Due.{stars, exceeds}

-- 0 if the test that a call begins with is passed
abbrev pub admission_number : Result (Unit {0}) Refusal → ℕ
admission_number (Ok done) = 0
admission_number (Err r) = refusal_number r

-- the same of the answer and the file alone
pub record Stores (after : After) (answer : Answer) (file : File) : Type 0 where
  pub answers : answer ≡ after.answer
  pub files : file ≡ after.file

-- f after the first n stores that make it l
abbrev pub stopped_file : Bool → Parameters → File → File → ℕ → File
stopped_file lowest p f l n = stored_file p.places f l (store_order lowest p.places f l p.pages) n

abbrev pub stopped : Bool → Parameters → File → ℕ → After → After
stopped lowest p f n after = stopped_after p.places f (store_order lowest p.places f after.file p.pages) n after

-- "the first page and place that differ from the rule over the whole file"
abbrev pub spot_of : Parameters → Growth → File → ℕ
spot_of p g f = first_spot p f (ruled p g f)

-- document 01's rule, "A·b·(highest address + 1)"
unfoldable pub is_due_addressed : Parameters → Growth → List ℕ → Bool
is_due_addressed p g numbers = exceeds p (highest p g + 1) (stars numbers)

-- placement's `Ready`, for a call that makes its table itself
abbrev pub Admitted : Parameters → Growth → File → Type 0
Admitted p g f = Ready (record { parameters = p; growth = g }) (first_multipliers_lem (multiplier_of p)) f
