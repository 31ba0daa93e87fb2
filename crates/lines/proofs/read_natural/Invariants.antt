-- The loop's invariant: the digits so far gave value, which fits 32 bits.
use Rattle.std.proofs.Common.{◌≤◌, ◌≡◌, drop}
use Rattle.lines.proofs.Numbers.{natural_from}
use Rattle.lines.specs.Grammar.{natural_of}
use Rattle.lines.proofs.read_natural.Given as goal

abbrev pub invariant-loop-c : goal.invariant-loop-c
invariant-loop-c l = (l.value ≤ 4294967295) × (natural_of l.field ≡ natural_from l.value (drop l.c-index l.field))
