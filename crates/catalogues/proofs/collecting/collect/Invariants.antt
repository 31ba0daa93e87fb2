-- `catalogues::collecting::collect` meets its contract.
use Rattle.std.proofs.Common.{◌*◌, ◌≤◌, take}
use Rattle.lines.specs.Programs.{Stands}
use Rattle.catalogues.specs.Runs.{cataloguing, run_held, Fit}
use Rattle.catalogues.proofs.collecting.collect.Given as goal

abbrev pub invariant-loop-byte : goal.invariant-loop-byte
invariant-loop-byte l =
    (l.at ≤ 37 * l.byte-index) × Fit l.state l.numbers l.words
    × Stands cataloguing (run_held l.initial.state l.initial.numbers l.initial.words) (take l.byte-index l.block) 0 l.initial.out l.out (run_held l.state l.numbers l.words) l.at
