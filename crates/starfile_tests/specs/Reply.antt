-- What the structs that the Rust tests pass and get stand for.
use Rattle.std.specs.Prelude.{◌≡◌}
use Rattle.hashing.specs.declared.Parameters.{Parameters}
use Rattle.placement.specs.File.{File}
use Rattle.calls.specs.declared.answers.Answer.{Answer}
use Rattle.calls.specs.declared.records.GrowthRecord.{GrowthRecord}
use Rattle.calls.specs.Answers.{Pool, After}
use Rattle.calls.specs.Records.{AfterStep}
use Rattle.starfile_tests.specs.declared.replies.FileParameters.{FileParameters}
use Rattle.starfile_tests.specs.declared.replies.Record.{Record}
use Rattle.starfile_tests.specs.declared.replies.Reply.{Reply}

-- b, N, n0, s, k, A, M, the multiplier
abbrev pub file_parameters : FileParameters → Parameters
file_parameters p =
    record {
      places = p.places;
      groups = p.groups;
      width = p.width;
      step = p.step;
      bits = p.bits;
      load = p.load;
      pages = p.pages;
      multiplier = p.multiplier;
    }

-- e, x, whether a growth is open, the steps done
abbrev pub growth_record_lem : Record → GrowthRecord
growth_record_lem r =
    record {
      state = record { expansions = r.expansions; expanded = r.expanded };
      growing = r.growing;
      steps = r.steps;
    }

-- an answer's number, page and place, with the growth record after the call
abbrev pub test_reply : Answer → GrowthRecord → Reply
test_reply a r =
    record {
      refusal = a.refusal;
      page = a.page;
      place = a.place;
      growth =
          record {
            expansions = r.state.expansions;
            expanded = r.state.expanded;
            growing = r.growing;
            steps = r.steps;
          };
    }

-- the reply and the buffers at exit are those of the definition, with this record
pub record TestReplies (after : After) (growth : GrowthRecord) (reply : Reply) (file : File) (pool : Pool) : Type 0 where
  pub replies : reply ≡ test_reply after.answer growth
  pub files : file ≡ after.file
  pub pools : pool ≡ after.pool

-- the same of an opening or a step
pub record TestRepliesStep (after : AfterStep) (reply : Reply) (second : File) (pool : Pool) : Type 0 where
  pub replies : reply ≡ test_reply after.answer after.growth
  pub seconds : second ≡ after.second
  pub pools : pool ≡ after.pool
