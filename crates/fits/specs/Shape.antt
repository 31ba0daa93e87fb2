-- What the code is said by and no promise to a caller cites.
use Rattle.std.specs.Prelude.{false, cond, List, ℕ, ltb, length}
use Rattle.buffers.specs.Lists.{written}
use Rattle.calls.specs.Answers.{counted, refused}
use Rattle.exchange.specs.Tables.{AfterWrite, not_written}

-- the table at the front of the output, or 12
unfoldable pub fitted : List ℕ → List ℕ → AfterWrite
fitted table out =
    cond (ltb (length out) (length table))
    (not_written out (refused 12 0))
    (record { answer = counted false (length table); output = written 0 table out })
