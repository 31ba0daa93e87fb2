-- `hashing::count_at` meets its contract: the shift loses no bit.
use native.Mathlib.Omega.{arith}
use native.Mathlib.Nat.{mod-eq_of_lt}
use borrow.Author.Rules.{rules}
use Rattle.hashing.specs.Geometry.{count_at_lem}
use Rattle.hashing.proofs.Bounds.{limits, count_most}
use Rattle.hashing.proofs.groups.count_at.Goals as goal

pub nonzero_div-result : goal.nonzero_div-result
nonzero_div-result c = (limits _ c.requires.parameters_value).width_least

pub returns : goal.returns
unfolding count_at_lem
returns c =
    let start = c.before.before in
    mod-eq_of_lt (omega (arith, count_most start.args.parameters start.args.expansions (limits _ start.requires.parameters_value) start.requires.width_bound))
