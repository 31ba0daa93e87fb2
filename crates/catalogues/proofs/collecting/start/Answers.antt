-- `catalogues::collecting::start` meets its contract.
use native.Mathlib.Omega.{arith}
use Rattle.lines.specs.Programs.{opened}
use Rattle.catalogues.specs.Entries.{pairs, rows_held}
use Rattle.catalogues.specs.Runs.{no_lines, cataloguing, run_held}
use borrow.Author.Rules.{rules}
use Rattle.catalogues.proofs.collecting.start.Goals as goal

pub returns : goal.returns
unfolding run_held opened cataloguing no_lines rows_held pairs
returns c = record {
  by_index = λ ns ws i. record { state = no_lines; begun = c.blank_line.ensures i };
  by_index_2 = λ ns ws a b. record { few = omega arith; numbers = a; words = b; proper = tt };
}
