use Prim.Native.Nat.{◌*◌, ◌%◌, ◌≤◌, ◌<◌}
use native.Mathlib.Nat.{mod-lt, mul-le-mul}
use native.Mathlib.Omega.{arith}
use borrow.Author.Rules.{rules}
use borrow.Author.Tests.{le-ltb, lt-ltb}
use Rattle.hashing.specs.Geometry.{group_size_lem, group_count_lem, expands}
use Rattle.hashing.proofs.Bounds.{Limits, Spread, limits, growth_within, spread}
use Rattle.hashing.proofs.groups.expands.Goals as goal
use Rattle.hashing.proofs.groups.expands.Goals.{After-struct_known-1, Start}

bounds : (c : Start) → Limits c.args.geometry.parameters
bounds c = limits c.args.geometry.parameters c.requires.parameters_value

wide : (c : Start) → Spread c.args.geometry.parameters c.args.geometry.growth
wide c = spread c.args.geometry.parameters c.args.geometry.growth (bounds c) (growth_within c.args.geometry.parameters c.args.geometry.growth c.requires.growth_value)

few : (c : Start) → group_size_lem c.args.geometry.parameters c.args.geometry.growth * group_count_lem c.args.geometry.parameters c.args.geometry.growth ≤ 7 * 1024
few c = mul-le-mul (wide c).size_high (wide c).count_high

group-below : (c : After-struct_known-1)
    → (c.args.page % c.group_count-count.result < c.group_count-count.result)
    × (c.group_count-count.result ≤ 1024)
group-below c =
    let w = wide c.before.before.before.before in
    let l = bounds c.before.before.before.before in
    rw c.group_count-count.ensures (mod-lt _ (omega (arith, w.count_low, l.groups_least)), w.count_high)

pub overflow_mul-group_size : goal.overflow_mul-group_size
overflow_mul-group_size c = rw (c.group_size.ensures, c.group_count-count.ensures) (omega (arith, few c.before.before))

pub returns-then-group_size-count : goal.returns-then-group_size-count
unfolding expands
returns-then-group_size-count c = rw (le-ltb _ _ (rw (c.group_size.ensures, c.group_count-count.ensures) at c.if-group_size-count.true))

pub overflow_cast-step : goal.overflow_cast-step
overflow_cast-step c = omega (arith, bounds c.before.before.before.before)

pub nonzero_rem-group : goal.nonzero_rem-group
nonzero_rem-group c = omega (arith, c.group_count-count.ensures, wide c.before.before.before.before, bounds c.before.before.before.before)

pub overflow_cast-group : goal.overflow_cast-group
overflow_cast-group c = omega (arith, group-below c)

pub overflow_cast-count : goal.overflow_cast-count
overflow_cast-count c = omega (arith, group-below c)

pub rank-requires : goal.rank-requires
rank-requires c =
    let l = bounds c.before.before.before.before in
    record {
      le_step = (l.step_least, omega (arith, l));
      group_lt_count = group-below c;
    }

pub returns : goal.returns
unfolding expands
returns c =
    rw (
      lt-ltb _ _ (rw (c.group_size.ensures, c.group_count-count.ensures) at c.if-group_size-count.false),
      c.rank.ensures,
      c.group_count-count.ensures,
    )
