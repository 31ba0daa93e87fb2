-- `hashing::choose` meets its contract. The invariant: the first `count` codes are those of the steps passed that choose the number.
use Rattle.std.proofs.Common.{◌≡◌, ◌≤◌, length, take}
use Rattle.hashing.specs.Geometry.{multiplier_of}
use Rattle.hashing.specs.Moves.{code_at, moves}
use Rattle.hashing.proofs.moves.choose.Given as goal

abbrev pub invariant-loop-i : goal.invariant-loop-i
invariant-loop-i l =
    (l.count ≤ l.i)
    × (length l.steps ≡ 32)
    × (l.code ≡ code_at l.parameters l.i)
    × (take l.count l.steps ≡ moves (multiplier_of l.parameters) l.parameters l.key l.i)
