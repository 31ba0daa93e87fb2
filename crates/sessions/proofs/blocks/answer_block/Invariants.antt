use Prim.Native.Nat.{◌*◌, ◌-◌, ◌≤◌}
use native.Mathlib.Numerals.{add-one}
use native.Mathlib.Omega.{arith}
use mathlib.Core.Path.{◌≡◌, ap, ◌∙◌}
use lib.ListN.{length, take}
use lib.Seq.{take_all, length-sets}
use Rattle.lines.specs.Programs.{Stands}
use Rattle.lines.proofs.Programs.{start-stands, block_more}
use Rattle.sessions.specs.Commands.{answering, run_in}
use Rattle.sessions.proofs.blocks.answer_block.Given as goal

abbrev pub invariant-loop-byte : goal.invariant-loop-byte
invariant-loop-byte l =
    (l.at ≤ 37 * l.byte-index) × Stands answering (run_in l.initial.state) (take l.byte-index l.block) 0 l.initial.out l.out (run_in l.state) l.at
