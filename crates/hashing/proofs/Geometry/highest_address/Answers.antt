-- `hashing::Geometry::highest_address` meets its contract.
use native.Mathlib.Omega.{arith}
use borrow.Author.Rules.{rules}
use Prim.Native.Nat.{◌≤◌}
use Rattle.hashing.specs.Geometry.{highest, page_count}
use Rattle.hashing.proofs.Bounds.{limits, growth_within, spread}
use Rattle.hashing.proofs.Geometry.highest_address.Goals as goal
use Rattle.hashing.proofs.Geometry.highest_address.Goals.{Start}

fits :
    (c : Start) →
    (1 ≤ page_count c.args.self.parameters c.args.self.growth) × (page_count c.args.self.parameters c.args.self.growth ≤ 1024)
fits c =
    let l = limits _ c.requires.parameters_value in
    let w = growth_within _ _ c.requires.growth_value in
    ((spread _ _ l w).pages_low, omega (arith, l.pages_most, w.pages_fit))

pub overflow_mul-result : goal.overflow_mul-result
unfolding page_count
overflow_mul-result c = rw (c.group_size.ensures, c.group_count.ensures) (omega (arith, fits c.before.before))

pub overflow_add-result : goal.overflow_add-result
unfolding page_count
overflow_add-result c = rw (c.group_size.ensures, c.group_count.ensures) (omega (arith, fits c.before.before.before))

pub overflow_sub-result : goal.overflow_sub-result
unfolding page_count
overflow_sub-result c = rw (c.group_size.ensures, c.group_count.ensures) (omega (arith, fits c.before.before.before))

pub returns : goal.returns
unfolding highest page_count
returns c = rw (c.group_size.ensures, c.group_count.ensures)
