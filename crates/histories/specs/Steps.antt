-- A growth done in steps is the growth: document 02 (xiii), for every file.
use Rattle.std.specs.Prelude.{◌≡◌, true, false, ℕ, zero, suc, ◌<◌}
use Rattle.hashing.specs.declared.Parameters.{Parameters}
use Rattle.hashing.specs.declared.Growth.{Growth}
use Rattle.placement.specs.File.{File, pages_at, replaced}
use Rattle.calls.specs.declared.records.GrowthRecord.{GrowthRecord}
use Rattle.calls.specs.Answers.{Pool, After, accepted, cleared}
use Rattle.calls.specs.Calls.{file_fits_lem, pool_fits_lem, empty_file_lem, grow_of, shrink_of, check_of}
use Rattle.calls.specs.Records.{AfterStep, closed_record, open_record, record_after, grow_under, open_under, step_under}
use Rattle.backup.specs.Local.{Untouched, Grows}
use Rattle.backup.specs.Stretches.{may_change}
use Rattle.histories.specs.RoundTrips.{Restores}

-- "opening is step 0", "all on that one set": each step is lent what the one before left, and a pool of its own
unfoldable pub steps_of : Parameters → GrowthRecord → File → File → (ℕ → Pool) → ℕ → AfterStep
steps_of p r f second pools zero = open_under p r f second (pools 0)
steps_of p r f second pools (suc j) =
    let before = steps_of p r f second pools j in
    step_under p before.growth f before.second (pools (suc j))

-- "its pages 0 to j − 1 and their separators are the finished ones, the others empty with separator 2^k − 1"
unfoldable pub partly_done : Parameters → File → ℕ → File
partly_done p finished j = replaced p.places (empty_file_lem p) 0 (pages_at p.places finished 0 j)

-- a second set and pools of the right lengths
pub record LentSteps (p : Parameters) (second : File) (pools : ℕ → Pool) : Type 0 where
  pub of_second : file_fits_lem p second ≡ true
  pub of_pools : (j : ℕ) → pool_fits_lem p (pools j) ≡ true

pub record GrowthInSteps (p : Parameters) (r : GrowthRecord) (f : File) (grown : After) (second : File) (pools : ℕ → Pool) : Type 0 where
  -- after step j
  pub unfinished : (j : ℕ) → j < p.pages
      → steps_of p r f second pools j
      ≡ record { answer = accepted 0; growth = open_record r.state j; second = partly_done p grown.file j; pool = cleared (pools j) }
  -- "step M answers the new page, and then the second set is the file"
  pub finished : steps_of p r f second pools p.pages
      ≡ record { answer = grown.answer; growth = record_after r grown; second = grown.file; pool = cleared (pools p.pages) }

-- whatever the record, the file and the pool, if growth is accepted
abbrev pub StepsAreGrowth : Type 0
StepsAreGrowth =
    (p : Parameters) (r : GrowthRecord) (f : File) (pool : Pool) → (grow_under p r f pool).answer.refusal ≡ 0
    → (second : File) (pools : ℕ → Pool) → LentSteps p second pools → GrowthInSteps p r f (grow_under p r f pool) second pools

-- the steps as one call: its file is the second set
abbrev pub in_steps : Parameters → Growth → File → File → (ℕ → Pool) → After
in_steps p g f second pools =
    let last = steps_of p (closed_record g) f second pools p.pages in
    record { answer = last.answer; growth = last.growth.state; file = last.second; pool = last.pool }

-- document 02 (i) for growths done in steps
pub record StepsRoundTrips (p : Parameters) (g : Growth) (f : File) (second : File) (pools : ℕ → Pool) : Type 0 where
  -- "an accepted growth then a shrink restores separators and pages"
  pub growth_then_shrink : (pool again : Pool) → pool_fits_lem p again ≡ true → (grow_of p g f pool).answer.refusal ≡ 0
      → Restores g f (in_steps p g f second pools) (shrink_of p (in_steps p g f second pools).growth (in_steps p g f second pools).file again)
  -- "as does an accepted shrink then a growth"
  pub shrink_then_growth : (pool : Pool) → (shrink_of p g f pool).answer.refusal ≡ 0
      → Restores g f (shrink_of p g f pool) (in_steps p (shrink_of p g f pool).growth (shrink_of p g f pool).file second pools)

abbrev pub RoundTripsInSteps : Type 0
RoundTripsInSteps =
    (p : Parameters) (g : Growth) (f : File) (pool : Pool) → (check_of p g f pool).answer.refusal ≡ 0
    → (second : File) (pools : ℕ → Pool) → LentSteps p second pools → StepsRoundTrips p g f second pools

-- document 02 (xiv): "On a clean file growth alters nothing outside these stretches", done in steps
abbrev pub LocalInSteps : Type 0
LocalInSteps =
    (p : Parameters) (g : Growth) (f : File) (pool : Pool) → Grows p g f pool
    → (second : File) (pools : ℕ → Pool) → LentSteps p second pools → (page : ℕ) → page < p.pages
    → may_change p g f.separators (in_steps p g f second pools).file.separators page ≡ false
    → Untouched p.places f (in_steps p g f second pools).file page
