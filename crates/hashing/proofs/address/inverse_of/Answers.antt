-- `hashing::inverse_of` meets its contract.
use mathlib.Core.Path.{refl}
use native.Mathlib.Nat.{div-le_self}
use native.Mathlib.Omega.{arith}
use Rattle.hashing.specs.Moves.{inverse_of_lem}
use Rattle.hashing.proofs.Bounds.{limits}
use Rattle.hashing.proofs.address.inverse_of.Goals as goal

pub nonzero_div-result : goal.nonzero_div-result
nonzero_div-result c = (limits _ c.requires).step_least

pub overflow_add-result : goal.overflow_add-result
overflow_add-result c = omega (arith, div-le_self 524288 c.args.parameters.step)

pub returns : goal.returns
unfolding inverse_of_lem
returns c = refl
