-- Whose turn it is by the growth record: what the definitions of crate calls ask of it, as the code tests it.
use Rattle.std.specs.Prelude.{Bool, false, cond, ℕ, eqb}
use Rattle.hashing.specs.declared.Parameters.{Parameters}
use Rattle.placement.specs.File.{File}
use Rattle.calls.specs.declared.answers.Answer.{Answer}
use Rattle.calls.specs.declared.answers.Grown.{Grown}
use Rattle.calls.specs.declared.records.GrowthRecord.{GrowthRecord}
use Rattle.calls.specs.declared.records.Recorded.{Recorded}
use Rattle.calls.specs.Answers.{After, Pool, Leaves}
use Rattle.calls.specs.Calls.{unless, or_else, unlent}
use Rattle.calls.specs.Records.{valid_steps, closed_record, unless_open}

-- nothing is open, and the record is valid
unfoldable pub at_rest_lem : GrowthRecord → Bool
at_rest_lem r = cond r.growing false (eqb r.steps 0)

-- 1 and 2 under a record
unfoldable pub record_refusal : Parameters → GrowthRecord → Bool → ℕ
record_refusal p r lengths = or_else (unless (valid_steps p r) 1) (unlent p r.state lengths)

-- a call that writes the file is refused by its record, whatever else it would have done
abbrev pub TurnedAway : Parameters → GrowthRecord → Bool → File → Pool → Answer → Pool → Type 0
TurnedAway p r lengths f pool answer left = (after : After) → Leaves (unless_open p r lengths f pool after) answer f left

-- the answer and growth state of a call with nothing open
abbrev pub restored : Grown → Recorded
restored grown = record { answer = grown.answer; growth = closed_record grown.growth }
