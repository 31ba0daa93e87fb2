use Prim.Native.Nat.{◌-◌, ◌≤◌}
use native.Mathlib.Omega.{arith}
use Rattle.buffers.proofs.Copies.{Copied}
use Rattle.buffers.proofs.Copies.{none}
use Rattle.page_edit.proofs.Moving.{fallen, fallen-next, fallen-all}
use Rattle.page_edit.proofs.items.take_word.Given as goal

abbrev pub invariant-loop-i : goal.invariant-loop-i
invariant-loop-i l = (l.i ≤ l.behind) × Copied l.initial.words l.from (fallen l.from l.behind l.initial.words) l.words l.i

abbrev pub decreases-loop-i : goal.decreases-loop-i
decreases-loop-i l = l.behind - l.i
