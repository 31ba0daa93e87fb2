-- The loop's invariant: no blank stands before i.
use Rattle.std.proofs.Common.{◌+◌, ◌≡◌, drop}
use Rattle.lines.specs.Shape.{field_length}
use Rattle.lines.proofs.first_blank.Given as goal

abbrev pub invariant-loop-i : goal.invariant-loop-i
invariant-loop-i l = field_length l.bytes ≡ l.i + field_length (drop l.i l.bytes)
