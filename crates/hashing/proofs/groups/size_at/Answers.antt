-- `hashing::size_at` meets its contract.
use native.Mathlib.Omega.{arith}
use mathlib.Core.Path.{refl}
use Rattle.hashing.specs.Geometry.{size_at}
use Rattle.hashing.proofs.Bounds.{limits, size-most}
use Rattle.hashing.proofs.groups.size_at.Goals as goal

pub nonzero_rem-result : goal.nonzero_rem-result
nonzero_rem-result c = (limits _ c.requires).width_least

pub overflow_add-result : goal.overflow_add-result
unfolding size_at
overflow_add-result c =
    let start = c.before.before in
    omega (arith, size-most start.args.parameters start.args.expansions (limits _ start.requires))

pub returns : goal.returns
unfolding size_at
returns c = refl
