-- The growth record that a caller keeps after growth or shrinking.
use Rattle.calls.specs.declared.records.GrowthRecord.{GrowthRecord}
use Rattle.calls.specs.declared.records.Recorded.{Recorded}
use Rattle.calls.specs.declared.answers.Placed.{Placed}

-- an answer with the record that the caller keeps
abbrev pub recorded_as : Placed → GrowthRecord → Recorded
recorded_as answer growth = record { answer = answer; growth = growth }
