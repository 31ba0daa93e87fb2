use mathlib.Core.Path.{◌≡◌, refl}
use mathlib.Core.List.{◌∷◌}
use Prim.Native.Nat.{◌-◌, ◌≤◌}
use native.Mathlib.Omega.{arith}
use lib.ListN.{drop, get_or}
use Rattle.buffers.proofs.Copies.{Copied}
use Rattle.buffers.proofs.Copies.{none, done}
use Rattle.page_edit.proofs.Moving.{risen_next}
use Rattle.page_edit.proofs.items.put_owner.Goals as goal

pub loop-i-init : goal.loop-i-init
loop-i-init c = (omega arith, none _ _ _, refl)

pub overflow_add-next : goal.overflow_add-next
overflow_add-next c = omega arith

pub bounds-owners-from : goal.bounds-owners-from
bounds-owners-from c = omega arith

pub overflow_add-owners : goal.overflow_add-owners
overflow_add-owners c = omega arith

pub bounds-owners-from-in-loop-i : goal.bounds-owners-from-in-loop-i
bounds-owners-from-in-loop-i c = omega arith

pub overflow_add-i : goal.overflow_add-i
overflow_add-i c = omega arith

pub loop-i-smaller : goal.loop-i-smaller
loop-i-smaller c = omega arith

pub loop-i-preserved : goal.loop-i-preserved
loop-i-preserved c =
    let next = risen_next c.loop-i.invariant.1 c.loop-i.invariant.2 (omega arith) in
    (omega arith, next.0, next.1)

pub shape_of-owners : goal.shape_of-owners
shape_of-owners c = c.loop-i.invariant.1.kept

pub returns : goal.returns
returns c = done c.args.count (omega arith) (omega arith) c.loop-i.invariant.1
