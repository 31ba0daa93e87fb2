-- `homes::scalars::ranked` meets its contract.
use Prim.Native.Nat.{ℕ, ◌+◌, ◌-◌, ◌*◌, ◌/◌, ◌%◌, ◌<◌, min}
use native.Mathlib.Nat.{div-mul-le_self}
use native.Mathlib.Omega.{arith}
use borrow.Author.Rules.{rules}
use Rattle.hashing.specs.Geometry.{rank, swept}
use Rattle.generator.proofs.Numbers.{rest}
use Rattle.hashing.proofs.Homes.{swept-below}
use Rattle.homes.proofs.scalars.ranked.Goals as goal
use Rattle.homes.proofs.scalars.ranked.Goals.{Start}

abbrev t : Start → ℕ
t c = c.args.stage.count - 1 - c.args.group

below :
    (c : Start) →
    t c % c.args.sweep.step * c.args.stage.part + min (t c % c.args.sweep.step) c.args.stage.rest + t c / c.args.sweep.step < c.args.stage.count
unfolding swept
below c =
    rw (c.requires.rankable.part-is, c.requires.rankable.rest-is)
    (swept-below c.args.sweep.step c.args.stage.count (t c) c.requires.rankable.step_least (omega (arith, c.requires.group_lt_count)))

pub divided-turns-requires : goal.divided-turns-requires
divided-turns-requires c = let r = c.requires.rankable in record {
  sweep_value = r.sweep_is;
  le_step = (r.step_least, r.step_most);
  t_bound = omega (arith, r.count_most, c.requires.group_lt_count);
}

pub overflow_mul-w : goal.overflow_mul-w
overflow_mul-w c =
    let start = c.before.before.before in
    rw c.divided-turns.ensures (omega (arith, div-mul-le_self (t start) start.args.sweep.step, start.requires.rankable.count_most))

pub overflow_sub-w : goal.overflow_sub-w
overflow_sub-w c =
    let start = c.before.before.before in
    rw c.divided-turns.ensures (div-mul-le_self (t start) start.args.sweep.step)

pub overflow_mul-result : goal.overflow_mul-result
overflow_mul-result c =
    let start = c.before.before.before.before in
    rw (rest _ _ _ c.divided-turns.ensures) (omega (arith, below start, start.requires.rankable.count_most))

pub overflow_add-result : goal.overflow_add-result
overflow_add-result c =
    let start = c.before.before.before.before.before in
    rw (c.smaller.ensures, rest _ _ _ c.divided-turns.ensures)
    (omega (arith, below start, start.requires.rankable.count_most))

pub overflow_add-result-2 : goal.overflow_add-result-2
overflow_add-result-2 c =
    let start = c.before.before.before.before.before in
    let turns = c.divided-turns.ensures in
    rw (c.smaller.ensures, rest _ _ _ turns, turns) (omega (arith, below start, start.requires.rankable.count_most))

pub returns : goal.returns
unfolding rank swept
returns c =
    let ready = c.requires.rankable in
    let turns = c.divided-turns.ensures in
    rw (c.smaller.ensures, rest _ _ _ turns, turns, ← ready.part-is, ← ready.rest-is)
