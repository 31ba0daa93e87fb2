use Prim.Native.Nat.{◌-◌, ◌≤◌}
use native.Mathlib.Omega.{arith}
use Rattle.buffers.proofs.Copies.{Copied}
use Rattle.buffers.proofs.Copies.{none}
use Rattle.page_edit.proofs.Moving.{fallen, fallen-next, fallen-all}
use Rattle.page_edit.proofs.items.take_word.Goals as goal

pub loop-i-init : goal.loop-i-init
loop-i-init c = (omega arith, none _ _ _)

pub overflow_add-words : goal.overflow_add-words
overflow_add-words c = omega arith

pub overflow_add-words-in-loop-i : goal.overflow_add-words-in-loop-i
overflow_add-words-in-loop-i c = omega arith

pub offset_bounds-words-from : goal.offset_bounds-words-from
offset_bounds-words-from c = omega arith

pub bounds-words-from : goal.bounds-words-from
bounds-words-from c = omega arith

pub overflow_add-words-in-loop-i-2 : goal.overflow_add-words-in-loop-i-2
overflow_add-words-in-loop-i-2 c = omega arith

pub offset_bounds-words-from-in-loop-i : goal.offset_bounds-words-from-in-loop-i
offset_bounds-words-from-in-loop-i c = omega arith

pub bounds-words-from-in-loop-i : goal.bounds-words-from-in-loop-i
bounds-words-from-in-loop-i c = omega arith

pub overflow_add-i : goal.overflow_add-i
overflow_add-i c = omega arith

pub loop-i-smaller : goal.loop-i-smaller
loop-i-smaller c = omega arith

pub loop-i-preserved : goal.loop-i-preserved
loop-i-preserved c = (omega arith, fallen-next _ _ _ c.requires c.loop-i.invariant.1 (omega arith))

pub overflow_add-words-2 : goal.overflow_add-words-2
overflow_add-words-2 c = omega arith

pub offset_bounds-words-from-2 : goal.offset_bounds-words-from-2
offset_bounds-words-from-2 c = omega arith

pub bounds-words-from-2 : goal.bounds-words-from-2
bounds-words-from-2 c = omega arith

pub shape_of-words : goal.shape_of-words
shape_of-words c = (fallen-all _ _ _ c.requires c.loop-i.invariant.1 (omega arith) (omega arith)).kept

pub returns : goal.returns
returns c = (fallen-all _ _ _ c.requires c.loop-i.invariant.1 (omega arith) (omega arith)).is
