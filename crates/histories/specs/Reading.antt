-- A table that was read is a file into which its rows were entered: document 02 (vi).
use Rattle.std.specs.Prelude.{◌≡◌, true, List, ℕ}
use Rattle.hashing.specs.declared.Parameters.{Parameters}
use Rattle.placement.specs.Rule.{Star}
use Rattle.placement.specs.File.{File}
use Rattle.calls.specs.declared.records.GrowthRecord.{GrowthRecord}
use Rattle.calls.specs.Answers.{Pool}
use Rattle.calls.specs.Calls.{pool_fits_lem}
use Rattle.fits_table.specs.Header.{table_in}
use Rattle.exchange.specs.Tables.{read_under}
use Rattle.histories.specs.Call.{table_stars}
use Rattle.histories.specs.Carrying.{OrderOf, EnteredAs}

-- "an empty file .. under the given parameters and (e, x), into which the rows are entered", in whatever order and with whatever pools
abbrev pub ReadIsEntered : Type 0
ReadIsEntered =
    (p : Parameters) (r : GrowthRecord) (f : File) (pool : Pool) (given : List ℕ) → (read_under p r f pool given).answer.refusal ≡ 0
    → (xs : List Star) → OrderOf (table_stars given (table_in given)) xs → (pools : Star → Pool) → ((t : Star) → pool_fits_lem p (pools t) ≡ true)
    → EnteredAs p r.state pools xs (read_under p r f pool given).file
