-- What the numbers that C programs pass and get stand for.
use Rattle.std.specs.Prelude.{◌≡◌, Bool, false, cond, List, ℕ, eqb, ltb, ℤ, pos}
use Rattle.hashing.specs.declared.Parameters.{Parameters}
use Rattle.hashing.specs.declared.Growth.{Growth as State}
use Rattle.pages.specs.declared.position.Position.{Position}
use Rattle.placement.specs.File.{File}
use Rattle.calls.specs.declared.answers.Answer.{Answer}
use Rattle.calls.specs.declared.records.GrowthRecord.{GrowthRecord}
use Rattle.calls.specs.Answers.{Pool, After}
use Rattle.calls.specs.Records.{AfterStep}
use Rattle.exchange.specs.Tables.{AfterWrite}
use Rattle.history_replay.specs.Replay.{Replay}
use Rattle.heatherplane.specs.declared.replies.Growth.{Growth}
use Rattle.heatherplane.specs.declared.replies.Reply.{Reply}

-- 0.9.0: major·10,000 + minor·100 + patch
abbrev pub version : ℕ
version = 900

-- b, N, n0, s, k, A, M, the multiplier
abbrev pub parameters_of_lem : ℕ → ℕ → ℕ → ℕ → ℕ → ℕ → ℕ → ℕ → Parameters
parameters_of_lem places groups width step bits load pages multiplier =
    record {
      places = places;
      groups = groups;
      width = width;
      step = step;
      bits = bits;
      load = load;
      pages = pages;
      multiplier = multiplier;
    }

-- e, x
abbrev pub state_of : ℕ → ℕ → State
state_of expansions expanded = record { expansions = expansions; expanded = expanded }

-- e, x, whether a growth is open (1) or not (0), the steps done; any number but these two makes a record that every call refuses with 1
abbrev pub record_of_lem : ℕ → ℕ → ℕ → ℕ → GrowthRecord
record_of_lem expansions expanded growing steps =
    record {
      state = state_of expansions expanded;
      growing = eqb growing 1;
      steps = cond (ltb 1 growing) 1 steps;
    }

abbrev pub position_of : ℕ → ℤ → Position
position_of ra dec = record { ra = ra; dec = dec }

abbrev pub flag : Bool → ℕ
flag set = cond set 1 0

-- a record in numbers
abbrev pub growth_of_lem : GrowthRecord → Growth
growth_of_lem r =
    record {
      expansions = r.state.expansions;
      expanded = r.state.expanded;
      growing = flag r.growing;
      steps = r.steps;
    }

-- an answer's number and values, with the growth record after the call
abbrev pub reply_of_lem : Answer → GrowthRecord → Reply
reply_of_lem a r =
    record {
      refusal = a.refusal;
      page = a.page;
      place = a.place;
      ra = a.position.ra;
      dec = a.position.dec;
      found = a.found;
      due = a.due;
      stars = a.stars;
      growth = growth_of_lem r;
    }

-- a replay's refusal, and the growth state after it with none open
abbrev pub replay_reply_lem : ℕ → State → Reply
replay_reply_lem refusal state =
    record {
      refusal = refusal;
      page = 0;
      place = 0;
      ra = 0;
      dec = pos 0;
      found = false;
      due = false;
      stars = 0;
      growth = record { expansions = state.expansions; expanded = state.expanded; growing = 0; steps = 0 };
    }

-- the reply and the buffers at exit are those of the definition, with this record
pub record Replies (after : After) (growth : GrowthRecord) (reply : Reply) (file : File) (pool : Pool) : Type 0 where
  pub replies : reply ≡ reply_of_lem after.answer growth
  pub files : file ≡ after.file
  pub pools : pool ≡ after.pool

-- the same of an opening or a step
pub record RepliesStep (after : AfterStep) (reply : Reply) (second : File) (pool : Pool) : Type 0 where
  pub replies : reply ≡ reply_of_lem after.answer after.growth
  pub seconds : second ≡ after.second
  pub pools : pool ≡ after.pool

-- the same of a table written; the file is only read
pub record RepliesTable (after : AfterWrite) (growth : GrowthRecord) (reply : Reply) (out : List ℕ) : Type 0 where
  pub replies : reply ≡ reply_of_lem after.answer growth
  pub outputs : out ≡ after.output

-- the same of a replay
pub record RepliesReplay (replay : Replay) (reply : Reply) (answers : List ℕ) (file : File) (pool : Pool) : Type 0 where
  pub replies : reply ≡ replay_reply_lem replay.refusal replay.growth
  pub answers_are : answers ≡ replay.answers
  pub files : file ≡ replay.file
  pub pools : pool ≡ replay.pool
