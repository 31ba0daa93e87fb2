use mathlib.Core.Path.{◌≡◌, refl}
use mathlib.Core.List.{◌∷◌}
use Prim.Native.Nat.{◌-◌, ◌≤◌}
use native.Mathlib.Omega.{arith}
use lib.ListN.{drop, get_or}
use Rattle.buffers.proofs.Copies.{Copied}
use Rattle.buffers.proofs.Copies.{none, done}
use Rattle.page_edit.proofs.Moving.{risen_next}
use Rattle.page_edit.proofs.items.put_number.Goals as goal

pub loop-i-init : goal.loop-i-init
loop-i-init c = (omega arith, none _ _ _, refl)

pub overflow_add-next : goal.overflow_add-next
overflow_add-next c = omega arith

pub offset_bounds-numbers-from : goal.offset_bounds-numbers-from
offset_bounds-numbers-from c = omega arith

pub bounds-numbers-from : goal.bounds-numbers-from
bounds-numbers-from c = omega arith

pub overflow_add-numbers : goal.overflow_add-numbers
overflow_add-numbers c = omega arith

pub offset_bounds-numbers-from-in-loop-i : goal.offset_bounds-numbers-from-in-loop-i
offset_bounds-numbers-from-in-loop-i c = omega arith

pub bounds-numbers-from-in-loop-i : goal.bounds-numbers-from-in-loop-i
bounds-numbers-from-in-loop-i c = omega arith

pub overflow_add-i : goal.overflow_add-i
overflow_add-i c = omega arith

pub loop-i-smaller : goal.loop-i-smaller
loop-i-smaller c = omega arith

pub loop-i-preserved : goal.loop-i-preserved
loop-i-preserved c =
    let next = risen_next c.loop-i.invariant.1 c.loop-i.invariant.2 (omega arith) in
    (omega arith, next.0, next.1)

pub shape_of-numbers : goal.shape_of-numbers
shape_of-numbers c = c.loop-i.invariant.1.kept

pub returns : goal.returns
returns c = done c.args.count (omega arith) (omega arith) c.loop-i.invariant.1
