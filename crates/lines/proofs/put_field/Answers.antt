-- `lines::put_field` meets its contract.
use Prim.Native.Nat.{◌<◌}
use native.Mathlib.Omega.{arith}
use lib.ListN.{length}
use Rattle.lines.specs.Replies.{field_bytes}
use Rattle.lines.proofs.Digits.{length_digits}
use Rattle.lines.proofs.Writing.{one_more}
use borrow.Author.Rules.{rules}
use Rattle.lines.proofs.put_field.Goals as goal
use Rattle.lines.proofs.put_field.Goals.{After-slice_known-2-1}

pub put_digits-next-requires : goal.put_digits-next-requires
put_digits-next-requires c = omega (arith, length_digits c.args.n)

-- the byte after the digits has its place
room : (c : After-slice_known-2-1) → c.put_digits-next.result < length c.put_digits-next.new.out
room c =
    omega (
      arith,
      length_digits c.args.n,
      c.put_digits-next.ensures.end,
      c.put_digits-next.auto.out,
    )

pub bounds-out-next : goal.bounds-out-next
bounds-out-next c = room c

pub overflow_add-result : goal.overflow_add-result
overflow_add-result c = omega (arith, room c)

pub returns : goal.returns
unfolding field_bytes
returns c = one_more _ _ _ _ _ _ c.put_digits-next.ensures
