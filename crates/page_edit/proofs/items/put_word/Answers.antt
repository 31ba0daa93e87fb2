use mathlib.Core.Path.{◌≡◌, refl}
use mathlib.Core.List.{◌∷◌}
use Prim.Native.Nat.{◌-◌, ◌≤◌}
use native.Mathlib.Omega.{arith}
use lib.ListN.{drop, get_or}
use Rattle.buffers.proofs.Copies.{Copied}
use Rattle.buffers.proofs.Copies.{none, done}
use Rattle.page_edit.proofs.Moving.{risen_next}
use Rattle.page_edit.proofs.items.put_word.Goals as goal

pub loop-i-init : goal.loop-i-init
loop-i-init c = (omega arith, none _ _ _, refl)

pub overflow_add-next : goal.overflow_add-next
overflow_add-next c = omega arith

pub offset_bounds-words-from : goal.offset_bounds-words-from
offset_bounds-words-from c = omega arith

pub bounds-words-from : goal.bounds-words-from
bounds-words-from c = omega arith

pub overflow_add-words : goal.overflow_add-words
overflow_add-words c = omega arith

pub offset_bounds-words-from-in-loop-i : goal.offset_bounds-words-from-in-loop-i
offset_bounds-words-from-in-loop-i c = omega arith

pub bounds-words-from-in-loop-i : goal.bounds-words-from-in-loop-i
bounds-words-from-in-loop-i c = omega arith

pub overflow_add-i : goal.overflow_add-i
overflow_add-i c = omega arith

pub loop-i-smaller : goal.loop-i-smaller
loop-i-smaller c = omega arith

pub loop-i-preserved : goal.loop-i-preserved
loop-i-preserved c =
    let next = risen_next c.loop-i.invariant.1 c.loop-i.invariant.2 (omega arith) in
    (omega arith, next.0, next.1)

pub shape_of-words : goal.shape_of-words
shape_of-words c = c.loop-i.invariant.1.kept

pub returns : goal.returns
returns c = done c.args.count (omega arith) (omega arith) c.loop-i.invariant.1
