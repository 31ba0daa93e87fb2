-- What tables promise to those who exchange files by them: document 02 (vi).
use Rattle.std.specs.Prelude.{◌≡◌, true, false, ◌&&◌, List, ℕ, ◌≤◌, ◌<◌, length, get_or, take, replicate}
use Rattle.buffers.specs.Lists.{written}
use Rattle.hashing.specs.declared.Parameters.{Parameters}
use Rattle.placement.specs.File.{File}
use Rattle.calls.specs.declared.records.GrowthRecord.{GrowthRecord}
use Rattle.calls.specs.Answers.{Pool, accepted, counted, cleared}
use Rattle.calls.specs.Calls.{file_fits_lem, pool_fits_lem, check_of, unchanged}
use Rattle.calls.specs.Records.{closed_record}
use Rattle.exchange.specs.Tables.{write_under, read_under}

-- the bytes that an accepted writing puts out
abbrev pub put : Parameters → GrowthRecord → File → List ℕ → List ℕ
put p r f out = let after = write_under p r f out in take after.answer.stars after.output

abbrev pub Written : Parameters → GrowthRecord → File → List ℕ → Type 0
Written p r f out = (write_under p r f out).answer.refusal ≡ 0

-- "takes, 8 aside, exactly what the writer can put out": what any writer puts out is neither 10 nor 11, whoever reads it
abbrev pub WrittenIsTaken : Type 0
WrittenIsTaken =
    (p : Parameters) (r : GrowthRecord) (f : File) (out : List ℕ) → Written p r f out
    → (q : Parameters) (s : GrowthRecord) (second : File) (pool : Pool) →
    let answer = (read_under q s second pool (put p r f out)).answer in
    (answer.refusal ≡ 10 → ⊥) × (answer.refusal ≡ 11 → ⊥)

-- "writing a table that was read restores its bytes": what is accepted is what writing the new file puts out, byte for byte
abbrev pub WriteRead : Type 0
WriteRead =
    (p : Parameters) (r : GrowthRecord) (f : File) (pool : Pool) (given : List ℕ) → ((i : ℕ) → get_or given i 0 < 256)
    → (read_under p r f pool given).answer.refusal ≡ 0
    → (out : List ℕ) → length given ≤ length out
    → write_under p r (read_under p r f pool given).file out ≡ record { answer = counted false (length given); output = written 0 given out }

-- "Reading a written table under the original ones restores a clean file", where "all owners were 0" (x)
abbrev pub ReadWritten : Type 0
ReadWritten =
    (p : Parameters) (r : GrowthRecord) (f : File) (own : Pool) → (check_of p r.state f own).answer.refusal ≡ 0
    → f.owners ≡ replicate (length f.owners) 0
    → (out : List ℕ) → Written p r f out
    → (second : File) (pool : Pool) → file_fits_lem p second && pool_fits_lem p pool ≡ true
    → read_under p (closed_record r.state) second pool (put p r f out) ≡ unchanged r.state f (cleared pool) (accepted 0)
