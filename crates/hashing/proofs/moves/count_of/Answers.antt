-- `hashing::count_of` meets its contract: the shift loses no bit.
use Prim.Native.Nat.{◌/◌, ◌≤◌}
use native.Mathlib.Nat.{mod-eq_of_lt}
use native.Mathlib.Omega.{arith}
use borrow.Author.Rules.{rules}
use Rattle.hashing.specs.Moves.{code_count}
use Rattle.hashing.proofs.Bounds.{limits, few-doublings}
use Rattle.hashing.proofs.moves.count_of.Goals as goal

pub overflow_cast-result : goal.overflow_cast-result
overflow_cast-result c = omega (arith, (limits _ c.requires.parameters_value).groups_most)

pub overflow_shl-result : goal.overflow_shl-result
unfolding code_count
overflow_shl-result c =
    let start = c.before in
    let few : start.args.code / 8 ≤ 10 = few-doublings start.args.parameters.groups (start.args.code / 8) (limits _ start.requires.parameters_value).groups_least start.requires.code_bound in
    search rules

pub returns : goal.returns
unfolding code_count
returns c = mod-eq_of_lt (omega (arith, c.requires.code_bound))
