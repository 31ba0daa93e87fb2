-- `call_due::in_use` meets its contract.
use Prim.Native.Nat.{◌-◌}
use native.Mathlib.Nat.{div-le_self}
use native.Mathlib.Omega.{arith}
use Rattle.call_due.proofs.Reached.{needed_none, needed_pages}
use Rattle.call_due.proofs.load.in_use.Goals as goal

pub returns-then-end-eq0 : goal.returns-then-end-eq0
returns-then-end-eq0 c = omega (arith, needed_none c.args.places c.args.end c.requires.0 c.if-end-eq0.true)

pub overflow_add-result-then-highest-last : goal.overflow_add-result-then-highest-last
overflow_add-result-then-highest-last c = omega (arith, div-le_self (c.args.end - 1) c.args.places)

pub returns-then-highest-last : goal.returns-then-highest-last
returns-then-highest-last c = omega (arith, needed_pages c.args.places c.args.end c.requires.0 (omega arith))

pub returns : goal.returns
returns c = omega (arith, needed_pages c.args.places c.args.end c.requires.0 (omega arith))
