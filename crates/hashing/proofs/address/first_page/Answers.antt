-- `hashing::first_page` meets its contract.
use Prim.Native.Nat.{◌*◌, ◌≤◌}
use native.Mathlib.Nat.{mul-le-mul, mod-lt}
use native.Mathlib.Omega.{arith}
use borrow.Author.Rules.{rules}
use Rattle.hashing.specs.Geometry.{multiplier_of}
use Rattle.hashing.proofs.Bounds.{Limits, limits}
use Rattle.generator.proofs.Powers.{first_below, times_first}
use Rattle.hashing.proofs.address.first_page.Goals as goal
use Rattle.hashing.proofs.address.first_page.Goals.{Start}

bounds : (c : Start) → Limits c.args.parameters
bounds c = limits _ c.requires.parameters_value

some : (c : Start) → 1 ≤ c.args.parameters.width * c.args.parameters.groups
some c = mul-le-mul {n₁ = 1} {m₁ = 1} (bounds c).width_least (bounds c).groups_least

pub residue-requires : goal.residue-requires
residue-requires c =
    let s = c.before.before.before in
    (rw s.requires.table_value (first_below (multiplier_of s.args.parameters) 0 (omega arith)), s.requires.key_lt_modulus)

pub overflow_mul-result : goal.overflow_mul-result
overflow_mul-result c = let l = bounds c.before.before.before.before.before in omega (arith, mul-le-mul l.width_most l.groups_most)

pub nonzero_rem-result : goal.nonzero_rem-result
nonzero_rem-result c = some c.before.before.before.before.before

pub overflow_cast-result : goal.overflow_cast-result
overflow_cast-result c =
    let start = c.before.before.before.before.before in
    let l = bounds start in
    omega (arith, mod-lt c.residue.result {m = start.args.parameters.width * start.args.parameters.groups} (some start), l.pages_least, l.pages_most)

pub returns : goal.returns
returns c =
    let s = c.before.before.before.before.before in
    rw (c.residue.ensures, s.requires.table_value, times_first (multiplier_of s.args.parameters) 0 s.args.key (omega arith))
