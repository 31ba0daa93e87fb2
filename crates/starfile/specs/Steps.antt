-- Opening a growth and its steps past refusals 1 and 2, and the whole growth as they read it: document 02 (xiii).
use Rattle.std.specs.Prelude.{◌≡◌, Bool, cond, ℕ, suc, eqb}
use Rattle.hashing.specs.declared.Parameters.{Parameters}
use Rattle.hashing.specs.declared.Growth.{Growth}
use Rattle.placement.specs.File.{File, pages_at, replaced}
use Rattle.calls.specs.declared.answers.Placed.{Placed}
use Rattle.calls.specs.declared.answers.Placed.TheVariants.{On}
use Rattle.calls.specs.declared.answers.Grown.{Grown}
use Rattle.calls.specs.declared.records.GrowthRecord.{GrowthRecord}
use Rattle.calls.specs.declared.records.Recorded.{Recorded}
use Rattle.calls.specs.Answers.{Pool, placed, refused}
use Rattle.calls.specs.Calls.{grow_on}
use Rattle.calls.specs.Records.{AfterStep, not_stepped, open_on, step_on, open_record}
use Rattle.call_guard.specs.Turn.{restored}

abbrev pub open_admitted : Parameters → GrowthRecord → File → File → Pool → AfterStep
open_admitted p r f second pool = cond r.growing (not_stepped r second pool (refused 16 0)) (open_on p r f second pool)

abbrev pub step_admitted : Parameters → GrowthRecord → File → File → Pool → AfterStep
step_admitted p r f second pool = cond r.growing (step_on p r f second pool) (not_stepped r second pool (refused 16 0))

-- the answer, the record and the second set at exit are those of the definition
pub record StoresStep (after : AfterStep) (r : Recorded) (second : File) : Type 0 where
  pub answers : placed r.answer ≡ after.answer
  pub growths : r.growth ≡ after.growth
  pub seconds : second ≡ after.second

-- the answer and the growth state of the whole growth, whatever the pool
abbrev pub GrowsAs : Parameters → Growth → File → Grown → Type 0
GrowsAs p g f r = (pool : Pool) → (placed r.answer ≡ (grow_on p g f pool).answer) × (r.growth ≡ (grow_on p g f pool).growth)

-- the second set with this page of the whole growth, if that is accepted
abbrev pub StepsAs : Parameters → Growth → File → File → ℕ → File → Type 0
StepsAs p g f second step left =
    (pool : Pool)
    → left
    ≡ cond (eqb (grow_on p g f pool).answer.refusal 0) (replaced p.places second step (pages_at p.places (grow_on p g f pool).file step 1)) second

abbrev pub accepted_by : Placed → Bool
accepted_by answer = eqb (placed answer).refusal 0

-- the record after a step, with its answer
unfoldable pub advanced_by : Parameters → GrowthRecord → Grown → Recorded
advanced_by p r grown =
    cond (accepted_by grown.answer)
    (cond (eqb (suc r.steps) p.pages) (restored grown) (record { answer = On 0 0; growth = open_record r.state (suc r.steps) }))
    (record { answer = grown.answer; growth = r })
