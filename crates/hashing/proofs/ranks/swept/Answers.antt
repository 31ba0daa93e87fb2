-- `hashing::swept` meets its contract.
use Prim.Native.Nat.{◌<◌}
use native.Mathlib.Nat.{mod-one, div-one, div-mul-le_self}
use native.Mathlib.Omega.{arith}
use borrow.Author.Rules.{rules}
use Rattle.hashing.specs.Geometry.{swept}
use Rattle.generator.proofs.Numbers.{rest}
use Rattle.hashing.proofs.Homes.{swept-below}
use Rattle.hashing.proofs.ranks.swept.Goals as goal
use Rattle.hashing.proofs.ranks.swept.Goals.{Start}

below : (c : Start) → swept c.args.step c.args.count c.args.t < c.args.count
below c = swept-below c.args.step c.args.count c.args.t c.requires.le_step.0 c.requires.t_lt_count.0

pub returns-then-step-eq1 : goal.returns-then-step-eq1
unfolding swept
returns-then-step-eq1 c =
    let start = c.before in
    rw (c.if-step-eq1.true, mod-one start.args.t, mod-one start.args.count, div-one start.args.t, div-one start.args.count) (omega arith)

pub overflow_mul-most : goal.overflow_mul-most
overflow_mul-most c = rw c.divided-part.ensures (omega (arith, div-mul-le_self c.args.count c.args.step, c.requires.t_lt_count.1))

pub overflow_sub-most : goal.overflow_sub-most
overflow_sub-most c = rw c.divided-part.ensures (div-mul-le_self c.args.count c.args.step)

pub overflow_mul-w : goal.overflow_mul-w
overflow_mul-w c = rw c.divided-sweep.ensures (omega (arith, div-mul-le_self c.args.t c.args.step, c.requires.t_lt_count))

pub overflow_sub-w : goal.overflow_sub-w
overflow_sub-w c = rw c.divided-sweep.ensures (div-mul-le_self c.args.t c.args.step)

pub in_sweep-requires : goal.in_sweep-requires
unfolding swept
in_sweep-requires c =
    let start = c.before.before.before in
    rw (rest _ _ _ c.divided-sweep.ensures, rest _ _ _ c.divided-part.ensures, c.divided-part.ensures, c.divided-sweep.ensures) (omega (arith, below start))

pub returns : goal.returns
unfolding swept
returns c = rw (c.in_sweep.ensures, rest _ _ _ c.divided-sweep.ensures, rest _ _ _ c.divided-part.ensures, c.divided-part.ensures, c.divided-sweep.ensures)
