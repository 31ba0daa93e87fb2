use mathlib.Core.Path.{◌≡◌, refl}
use mathlib.Core.List.{◌∷◌}
use Prim.Native.Nat.{◌-◌, ◌≤◌}
use native.Mathlib.Omega.{arith}
use lib.ListN.{drop, get_or}
use Rattle.buffers.proofs.Copies.{Copied}
use Rattle.buffers.proofs.Copies.{none, done}
use Rattle.page_edit.proofs.Moving.{risen_next}
use Rattle.page_edit.proofs.items.put_owner.Given as goal

abbrev pub invariant-loop-i : goal.invariant-loop-i
invariant-loop-i l = (l.i ≤ l.count) × Copied l.initial.owners l.from (l.owner ∷ drop l.from l.initial.owners) l.owners l.i × (l.carried ≡ get_or (l.owner ∷ drop l.from l.initial.owners) l.i 0)

abbrev pub decreases-loop-i : goal.decreases-loop-i
decreases-loop-i l = l.count - l.i
