-- `hashing::growth_valid` meets its contract: more than ten doublings are more groups than pages.
use Prim.Native.Nat.{◌*◌, ◌<◌, ◌≤◌}
use native.Mathlib.Nat.{mul-le-mul}
use native.Mathlib.Omega.{arith}
use borrow.Author.Rules.{rules}
use borrow.Author.Tests.{lt-ltb, le-ltb}
use Rattle.hashing.specs.Geometry.{group_count_lem, page_count}
use Rattle.hashing.specs.Limits.{valid_growth}
use Rattle.hashing.proofs.Bounds.{limits, size-most, count_most, many_doublings}
use Rattle.hashing.proofs.limits.growth_valid.Goals as goal
use Rattle.hashing.proofs.limits.growth_valid.Goals.{After-count_at-count, After-size_at}

counted : (c : After-count_at-count) → c.count_at-count.result ≤ 262144
counted c =
    let start = c.before.before.before in
    rw c.count_at-count.ensures (count_most start.args.parameters start.args.growth.expansions (limits _ start.requires) c.if-expansions-parameters-gt10.false)

product : (c : After-size_at) → c.size_at.result * c.count_at-count.result ≤ 7 * 262144
product c =
    let start = c.before.before.before.before.before.before in
    let few : c.size_at.result ≤ 7 = rw c.size_at.ensures (size-most start.args.parameters start.args.growth.expansions (limits _ start.requires)) in
    mul-le-mul few (counted c.before.before.before)

pub nonzero_div-expansions : goal.nonzero_div-expansions
nonzero_div-expansions c = (limits _ c.requires).width_least

pub returns-then-expansions-parameters-gt10 : goal.returns-then-expansions-parameters-gt10
returns-then-expansions-parameters-gt10 c =
    let start = c.before.before in
    rw (many_doublings start.args.parameters start.args.growth (limits _ start.requires) c.if-expansions-parameters-gt10.true)

pub returns-then-count-growth : goal.returns-then-count-growth
unfolding valid_growth
returns-then-count-growth c =
    let start = c.before.before.before.before.before in
    let none : group_count_lem start.args.parameters start.args.growth ≤ start.args.growth.expanded = omega (arith, c.if-count-growth.true, c.count_at-count.ensures) in
    rw (le-ltb _ _ none)

pub overflow_mul-result : goal.overflow_mul-result
overflow_mul-result c = omega (arith, product c)

pub overflow_add-result : goal.overflow_add-result
overflow_add-result c =
    let start = c.before.before.before.before.before.before.before in
    omega (arith, product c.before, c.if-count-growth.false, counted c.before.before.before.before)

pub returns : goal.returns
unfolding valid_growth page_count
returns c =
    let start = c.before.before.before.before.before.before.before.before in
    let some : start.args.growth.expanded < group_count_lem start.args.parameters start.args.growth = omega (arith, c.if-count-growth.false, c.count_at-count.ensures) in
    rw (lt-ltb _ _ some, c.size_at.ensures, c.count_at-count.ensures)
