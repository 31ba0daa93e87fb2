-- Growth and shrinking as one call, by its step; and what comes of the check as its answer, with pages small enough for 32 bits.
use Rattle.std.specs.Prelude.{Bool, true, false, cond, ℕ, ◌-◌, ◌^◌, ◌<◌, eqb}
use Rattle.hashing.specs.declared.Parameters.{Parameters}
use Rattle.hashing.specs.declared.Growth.{Growth}
use Rattle.hashing.specs.Geometry.{page_count, highest, grown, is_ungrown, shrunk}
use Rattle.placement.specs.File.{File}
use Rattle.rule_check.specs.declared.telling.Verdict.{Verdict}
use Rattle.rule_check.specs.declared.telling.Verdict.TheVariants.{Clean, Differs, Unsound as verdict·Unsound}
use Rattle.calls.specs.declared.answers.Refusal.TheVariants.{Damaged, Full, Ungrown}
use Rattle.call_whole_file.specs.declared.growth.Step.{Step}
use Rattle.call_whole_file.specs.declared.growth.Step.TheVariants.{To, Not}
use Rattle.calls.specs.declared.answers.Checked.{Checked}
use Rattle.calls.specs.declared.answers.Checked.TheVariants.{Clean as checked·Clean, Refused as checked·Refused}
use Rattle.calls.specs.Answers.{Pool, After}
use Rattle.calls.specs.Calls.{grow_on, grow_of, shrink_on, shrink_of}

-- the growth state that growth goes to, or that it came from, with the page that comes or goes; or what refuses it
unfoldable pub step_of : Bool → Parameters → Growth → Step
step_of true p g = cond (is_ungrown g) (Not Ungrown) (To (shrunk p g) (highest p g))
step_of false p g = cond (eqb (highest p g) (p.pages - 1)) (Not Full) (To (grown p g) (page_count p g))

-- growth, or `back` shrinking
abbrev pub regrow_on : Bool → Parameters → Growth → File → Pool → After
regrow_on back p g f pool = cond back (shrink_on p g f pool) (grow_on p g f pool)

abbrev pub regrow_of : Bool → Parameters → Growth → File → Pool → After
regrow_of back p g f pool = cond back (shrink_of p g f pool) (grow_of p g f pool)

abbrev pub VerdictSmall : Verdict → Type 0
VerdictSmall Clean = Unit {0}
VerdictSmall (Differs page place) = (page < 2 ^ 32) × (place < 2 ^ 32)
VerdictSmall (verdict·Unsound page) = page < 2 ^ 32

-- an unsound page is told with the place b
abbrev pub verdict_checked_lem : Verdict → ℕ → Checked
verdict_checked_lem Clean places = checked·Clean
verdict_checked_lem (Differs page place) places = checked·Refused (Damaged page) place
verdict_checked_lem (verdict·Unsound page) places = checked·Refused (Damaged page) places
