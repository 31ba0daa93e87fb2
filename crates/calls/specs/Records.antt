-- The calls under the growth record that a caller keeps, opening a growth and its steps: document 02 (xiii).
use Rattle.std.specs.Prelude.{◌≡◌, Bool, true, false, cond, ◌&&◌, ℕ, zero, suc, eqb, ltb}
use Rattle.hashing.specs.declared.Parameters.{Parameters}
use Rattle.hashing.specs.declared.Growth.{Growth}
use Rattle.pages.specs.declared.position.Position.{Position}
use Rattle.placement.specs.File.{File, pages_at, replaced}
use Rattle.calls.specs.declared.records.GrowthRecord.{GrowthRecord}
use Rattle.calls.specs.declared.records.Recorded.{Recorded}
use Rattle.calls.specs.Answers.{Answer, Pool, After, accepted, refused, cleared, placed}
use Rattle.calls.specs.Calls.{
  unless,
  or_else,
  unlent,
  guarded,
  unchanged,
  file_fits_lem,
  pool_fits_lem,
  empty_file_lem,
  look_up_of,
  enter_of,
  cascade_of,
  change_of,
  remove_of,
  grow_on,
  grow_of,
  shrink_of,
  due_of,
  check_of,
}

-- "the steps done, below M and 0 if none is open"
unfoldable pub valid_steps : Parameters → GrowthRecord → Bool
valid_steps p r = cond r.growing (ltb r.steps p.pages) (eqb r.steps 0)

-- a record with nothing open; "a new file has none open"
abbrev pub closed_record : Growth → GrowthRecord
closed_record g = record { state = g; growing = false; steps = 0 }

-- a record with a growth open, of which so many steps are done
abbrev pub open_record : Growth → ℕ → GrowthRecord
open_record g steps = record { state = g; growing = true; steps = steps }

-- Calls under a record

-- "any other record is refusal 1"
abbrev pub recorded : Parameters → GrowthRecord → File → Pool → After → After
recorded p r f pool after = guarded r.state f pool (unless (valid_steps p r) 1) after

-- a call "whose kind writes the file" is refused "with 16, first after 2, between opening and step M"
abbrev pub unless_open : Parameters → GrowthRecord → Bool → File → Pool → After → After
unless_open p r lengths f pool after =
    recorded p r f pool
    (cond r.growing
    (guarded r.state f pool (unlent p r.state lengths) (unchanged r.state f (cleared pool) (refused 16 0)))
    after)

unfoldable pub look_up_under : Parameters → GrowthRecord → File → Pool → ℕ → After
look_up_under p r f pool k = recorded p r f pool (look_up_of p r.state f pool k)

unfoldable pub enter_under : Parameters → GrowthRecord → File → Pool → ℕ → ℕ → Position → After
enter_under p r f pool caller k q = unless_open p r (file_fits_lem p f && pool_fits_lem p pool) f pool (enter_of p r.state f pool caller k q)

unfoldable pub cascade_under : Parameters → GrowthRecord → File → Pool → ℕ → ℕ → Position → After
cascade_under p r f pool caller k q = unless_open p r (file_fits_lem p f && pool_fits_lem p pool) f pool (cascade_of p r.state f pool caller k q)

unfoldable pub change_under : Parameters → GrowthRecord → File → Pool → ℕ → ℕ → Position → After
change_under p r f pool caller k q = unless_open p r (file_fits_lem p f) f pool (change_of p r.state f pool caller k q)

unfoldable pub remove_under : Parameters → GrowthRecord → File → Pool → ℕ → ℕ → After
remove_under p r f pool caller k = unless_open p r (file_fits_lem p f && pool_fits_lem p pool) f pool (remove_of p r.state f pool caller k)

unfoldable pub grow_under : Parameters → GrowthRecord → File → Pool → After
grow_under p r f pool = unless_open p r (file_fits_lem p f && pool_fits_lem p pool) f pool (grow_of p r.state f pool)

unfoldable pub shrink_under : Parameters → GrowthRecord → File → Pool → After
shrink_under p r f pool = unless_open p r (file_fits_lem p f && pool_fits_lem p pool) f pool (shrink_of p r.state f pool)

unfoldable pub due_under : Parameters → GrowthRecord → File → Pool → After
due_under p r f pool = recorded p r f pool (due_of p r.state f pool)

unfoldable pub check_under : Parameters → GrowthRecord → File → Pool → After
check_under p r f pool = recorded p r f pool (check_of p r.state f pool)

-- the record after a call on the file: its growth state is the call's
abbrev pub record_after : GrowthRecord → After → GrowthRecord
record_after r after = record { state = after.growth; growing = r.growing; steps = r.steps }

-- Opening a growth, and its steps

-- the answer, and the growth record, the second set of pages and the pool afterwards; the file itself is only read
pub record AfterStep : Type 0 where
  pub answer : Answer
  pub growth : GrowthRecord
  pub second : File
  pub pool : Pool

abbrev pub not_stepped : GrowthRecord → File → Pool → Answer → AfterStep
not_stepped r second pool answer = record { answer = answer; growth = r; second = second; pool = pool }

-- refused with n before anything was read, or what else the call does
abbrev pub guarded_step : GrowthRecord → File → Pool → ℕ → AfterStep → AfterStep
guarded_step r second pool zero after = after
guarded_step r second pool (suc n) after = not_stepped r second pool (refused (suc n) 0)

-- 1 for parameters and record, 2 for the file, the second set and the pool
unfoldable pub step_refusal : Parameters → GrowthRecord → File → File → Pool → ℕ
step_refusal p r f second pool =
    or_else (unless (valid_steps p r) 1) (unlent p r.state (file_fits_lem p f && (file_fits_lem p second && pool_fits_lem p pool)))

-- the growth that is done in steps; "Opening and each step meet growth's own refusals"
abbrev pub whole_growth : Parameters → GrowthRecord → File → Pool → After
whole_growth p r f pool = grow_on p r.state f pool

abbrev pub growth_accepted : Parameters → GrowthRecord → File → Pool → Bool
growth_accepted p r f pool = eqb (whole_growth p r f pool).answer.refusal 0

-- "opening is step 0": every page of the second set is empty
unfoldable pub open_on : Parameters → GrowthRecord → File → File → Pool → AfterStep
open_on p r f second pool =
    cond (growth_accepted p r f pool)
    (record { answer = accepted 0; growth = open_record r.state 0; second = empty_file_lem p; pool = pool })
    (not_stepped r second pool (whole_growth p r f pool).answer)

-- 16 if one is open already
unfoldable pub open_under : Parameters → GrowthRecord → File → File → Pool → AfterStep
open_under p r f second pool =
    guarded_step r second pool (step_refusal p r f second pool)
    (cond r.growing (not_stepped r second (cleared pool) (refused 16 0)) (open_on p r f second (cleared pool)))

-- the second set with this page as the growth leaves it
unfoldable pub with_page : Parameters → GrowthRecord → File → File → Pool → ℕ → File
with_page p r f second pool page =
    replaced p.places second page (pages_at p.places (whole_growth p r f pool).file page 1)

-- "step M answers the new page, and then the second set is the file"
unfoldable pub step_on : Parameters → GrowthRecord → File → File → Pool → AfterStep
step_on p r f second pool =
    cond (growth_accepted p r f pool)
    (cond (eqb (suc r.steps) p.pages)
    (record {
      answer = (whole_growth p r f pool).answer;
      growth = closed_record (whole_growth p r f pool).growth;
      second = with_page p r f second pool r.steps;
      pool = pool;
    })
    (record {
      answer = accepted 0;
      growth = open_record r.state (suc r.steps);
      second = with_page p r f second pool r.steps;
      pool = pool;
    }))
    (not_stepped r second pool (whole_growth p r f pool).answer)

-- "and a step when nothing is open"
unfoldable pub step_under : Parameters → GrowthRecord → File → File → Pool → AfterStep
step_under p r f second pool =
    guarded_step r second pool (step_refusal p r f second pool)
    (cond r.growing (step_on p r f second (cleared pool)) (not_stepped r second (cleared pool) (refused 16 0)))

-- the answer, the record and the lent buffers at exit are those of the definition
pub record LeavesStep (after : AfterStep) (r : Recorded) (second : File) (pool : Pool) : Type 0 where
  pub answers : placed r.answer ≡ after.answer
  pub growths : r.growth ≡ after.growth
  pub seconds : second ≡ after.second
  pub pools : pool ≡ after.pool
