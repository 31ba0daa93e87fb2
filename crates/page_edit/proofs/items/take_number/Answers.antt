use Prim.Native.Nat.{◌-◌, ◌≤◌}
use native.Mathlib.Omega.{arith}
use Rattle.buffers.proofs.Copies.{Copied}
use Rattle.buffers.proofs.Copies.{none}
use Rattle.page_edit.proofs.Moving.{fallen, fallen-next, fallen-all}
use Rattle.page_edit.proofs.items.take_number.Goals as goal

pub loop-i-init : goal.loop-i-init
loop-i-init c = (omega arith, none _ _ _)

pub overflow_add-numbers : goal.overflow_add-numbers
overflow_add-numbers c = omega arith

pub overflow_add-numbers-in-loop-i : goal.overflow_add-numbers-in-loop-i
overflow_add-numbers-in-loop-i c = omega arith

pub offset_bounds-numbers-from : goal.offset_bounds-numbers-from
offset_bounds-numbers-from c = omega arith

pub bounds-numbers-from : goal.bounds-numbers-from
bounds-numbers-from c = omega arith

pub overflow_add-numbers-in-loop-i-2 : goal.overflow_add-numbers-in-loop-i-2
overflow_add-numbers-in-loop-i-2 c = omega arith

pub offset_bounds-numbers-from-in-loop-i : goal.offset_bounds-numbers-from-in-loop-i
offset_bounds-numbers-from-in-loop-i c = omega arith

pub bounds-numbers-from-in-loop-i : goal.bounds-numbers-from-in-loop-i
bounds-numbers-from-in-loop-i c = omega arith

pub overflow_add-i : goal.overflow_add-i
overflow_add-i c = omega arith

pub loop-i-smaller : goal.loop-i-smaller
loop-i-smaller c = omega arith

pub loop-i-preserved : goal.loop-i-preserved
loop-i-preserved c = (omega arith, fallen-next _ _ _ c.requires c.loop-i.invariant.1 (omega arith))

pub overflow_add-numbers-2 : goal.overflow_add-numbers-2
overflow_add-numbers-2 c = omega arith

pub offset_bounds-numbers-from-2 : goal.offset_bounds-numbers-from-2
offset_bounds-numbers-from-2 c = omega arith

pub bounds-numbers-from-2 : goal.bounds-numbers-from-2
bounds-numbers-from-2 c = omega arith

pub shape_of-numbers : goal.shape_of-numbers
shape_of-numbers c = (fallen-all _ _ _ c.requires c.loop-i.invariant.1 (omega arith) (omega arith)).kept

pub returns : goal.returns
returns c = (fallen-all _ _ _ c.requires c.loop-i.invariant.1 (omega arith) (omega arith)).is
