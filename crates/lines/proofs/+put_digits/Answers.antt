-- `lines::put_digits` meets its contract.
use Prim.Native.Nat.{◌<◌}
use native.Mathlib.Omega.{arith}
use lib.ListN.{length, length-set}
use Rattle.lines.proofs.Digits.{one-digit, digit_more, lone, longer}
use Rattle.lines.proofs.+put_digits.Goals as goal

pub bounds-out-at : goal.bounds-out-at
bounds-out-at t c = omega (arith, lone c.args.n c.if-n-lt10.true)

pub returns-then-n-lt10 : goal.returns-then-n-lt10
returns-then-n-lt10 t c = one-digit _ _ _ c.if-n-lt10.true

pub put_digits-last-requires : goal.put_digits-last-requires
put_digits-last-requires t c = (omega arith, omega (arith, longer c.args.n c.if-n-lt10.false (omega arith)))

pub bounds-out-last : goal.bounds-out-last
bounds-out-last t c =
    omega (
      arith,
      longer c.args.n c.if-n-lt10.false (omega arith),
      c.put_digits-last.ensures.end,
      c.put_digits-last.auto.out,
    )

pub overflow_add-result-2 : goal.overflow_add-result-2
overflow_add-result-2 t c =
    omega (
      arith,
      longer c.args.n c.if-n-lt10.false (omega arith),
      c.put_digits-last.ensures.end,
      c.put_digits-last.auto.out,
    )

pub returns : goal.returns
returns t c = digit_more _ _ _ _ _ c.if-n-lt10.false (omega arith) c.put_digits-last.ensures
