-- A history: its elements in turn, and the model fed alongside. Document 01, "The plain book".
use Rattle.std.specs.Prelude.{List, [], ◌∷◌}
use Rattle.hashing.specs.declared.Parameters.{Parameters}
use Rattle.hashing.specs.declared.Growth.{Growth}
use Rattle.placement.specs.File.{File}
use Rattle.calls.specs.declared.answers.Answer.{Answer}
use Rattle.calls.specs.declared.records.GrowthRecord.{GrowthRecord}
use Rattle.calls.specs.Answers.{Pool}
use Rattle.calls.specs.Calls.{make_of}
use Rattle.calls.specs.Records.{closed_record}
use Rattle.histories.specs.Model.{Model, empty_model, Made, calls_made, Feeding, fed_by}
use Rattle.histories.specs.Call.{Call, Outcome, effect, feeding}

-- the parameters, the growth record, the file, the second set of an open growth and the model between two calls; the second set counts for nothing
-- while none is open
pub record HistoryState : Type 0 where
  pub parameters : Parameters
  pub growth : GrowthRecord
  pub file : File
  pub second : File
  pub model : Model

-- a state whose model is still empty; "a new file has none open"
abbrev pub fresh : Parameters → Growth → File → File → HistoryState
fresh p g f second = record { parameters = p; growth = closed_record g; file = f; second = second; model = empty_model g }

-- "from the empty file that making one left"; the second set may be any
unfoldable pub initial : Parameters → File → File → Pool → HistoryState
initial p f second pool = fresh p (make_of p f pool).growth (make_of p f pool).file second

-- what a call answers and leaves at a state
unfoldable pub outcome : HistoryState → Call → Outcome
outcome s c = effect s.parameters s.growth s.file s.second c.second c.pool c.element

-- what the model is then fed
unfoldable pub fed_then : HistoryState → Call → Feeding
fed_then s c = feeding s.parameters s.growth s.file c.pool (outcome s c) c.element

-- the state after a call
unfoldable pub next : HistoryState → Call → HistoryState
next s c =
    record {
      parameters = (outcome s c).parameters;
      growth = (outcome s c).growth;
      file = (outcome s c).file;
      second = (outcome s c).second;
      model = fed_by (outcome s c).parameters (fed_then s c) s.model;
    }

-- a call of a history, the state before it, its answer, and the calls that the model was fed
pub record Event : Type 0 where
  pub before : HistoryState
  pub call : Call
  pub answer : Answer
  pub calls : List Made

abbrev pub event_of : HistoryState → Call → Event
event_of s c = record { before = s; call = c; answer = (outcome s c).answer; calls = calls_made (fed_then s c) }

-- "A history is a list of look-ups, entries, changes, removals, growths, Dues .. and checks on one file, refused ones included"; "Histories may now
-- mix both", growths and shrinks: document 02 (i); "each call that the requests below add joins them too"
unfoldable pub events : HistoryState → List Call → List Event
events s [] = []
events s (c ∷ cs) = event_of s c ∷ events (next s c) cs

-- the state after the last call
unfoldable pub end : HistoryState → List Call → HistoryState
end s [] = s
end s (c ∷ cs) = end (next s c) cs
