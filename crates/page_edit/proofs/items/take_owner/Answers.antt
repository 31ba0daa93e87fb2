use Prim.Native.Nat.{◌-◌, ◌≤◌}
use native.Mathlib.Omega.{arith}
use Rattle.buffers.proofs.Copies.{Copied}
use Rattle.buffers.proofs.Copies.{none}
use Rattle.page_edit.proofs.Moving.{fallen, fallen-next, fallen-all}
use Rattle.page_edit.proofs.items.take_owner.Goals as goal

pub loop-i-init : goal.loop-i-init
loop-i-init c = (omega arith, none _ _ _)

pub overflow_add-owners : goal.overflow_add-owners
overflow_add-owners c = omega arith

pub overflow_add-owners-in-loop-i : goal.overflow_add-owners-in-loop-i
overflow_add-owners-in-loop-i c = omega arith

pub bounds-owners-from : goal.bounds-owners-from
bounds-owners-from c = omega arith

pub overflow_add-owners-in-loop-i-2 : goal.overflow_add-owners-in-loop-i-2
overflow_add-owners-in-loop-i-2 c = omega arith

pub bounds-owners-from-in-loop-i : goal.bounds-owners-from-in-loop-i
bounds-owners-from-in-loop-i c = omega arith

pub overflow_add-i : goal.overflow_add-i
overflow_add-i c = omega arith

pub loop-i-smaller : goal.loop-i-smaller
loop-i-smaller c = omega arith

pub loop-i-preserved : goal.loop-i-preserved
loop-i-preserved c = (omega arith, fallen-next _ _ _ c.requires c.loop-i.invariant.1 (omega arith))

pub overflow_add-owners-2 : goal.overflow_add-owners-2
overflow_add-owners-2 c = omega arith

pub bounds-owners-from-2 : goal.bounds-owners-from-2
bounds-owners-from-2 c = omega arith

pub shape_of-owners : goal.shape_of-owners
shape_of-owners c = (fallen-all _ _ _ c.requires c.loop-i.invariant.1 (omega arith) (omega arith)).kept

pub returns : goal.returns
returns c = (fallen-all _ _ _ c.requires c.loop-i.invariant.1 (omega arith) (omega arith)).is
