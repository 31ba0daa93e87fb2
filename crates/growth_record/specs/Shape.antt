-- What the code is said by and no promise to a caller cites.
use Rattle.calls.specs.declared.records.GrowthRecord.{GrowthRecord}
use Rattle.calls.specs.declared.answers.Placed.{Placed}
use Rattle.calls.specs.declared.answers.Placed.TheVariants.{On, Refused}

-- "File buffers and (e, x) keep their contents" after a refusal
abbrev pub kept_by : Placed → GrowthRecord → GrowthRecord → GrowthRecord
kept_by (On page place) old new = new
kept_by (Refused r place) old new = old
