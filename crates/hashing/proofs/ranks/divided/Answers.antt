-- `hashing::divided` meets its contract, by the law of an inverse.
use Prim.Native.Nat.{◌*◌, ◌≤◌}
use native.Mathlib.Nat.{mul-le-mul, div-le_self}
use native.Mathlib.Omega.{arith}
use Rattle.hashing.specs.Moves.{inverse_of_lem}
use Rattle.generator.proofs.Numbers.{inverse}
use Rattle.hashing.proofs.ranks.divided.Goals as goal
use Rattle.hashing.proofs.ranks.divided.Goals.{Start}

product : (c : Start) → c.args.number * c.args.inverse ≤ 1024 * 524289
unfolding inverse_of_lem
product c =
    let most : c.args.inverse ≤ 524289 = omega (arith, c.requires.inverse_value, div-le_self 524288 c.args.divisor) in
    mul-le-mul c.requires.number_bound most

pub overflow_mul-result : goal.overflow_mul-result
overflow_mul-result c = omega (arith, product c)

pub overflow_cast-result-2 : goal.overflow_cast-result-2
overflow_cast-result-2 c = omega (arith, product c)

pub returns : goal.returns
unfolding inverse_of_lem
returns c =
    let small : c.args.number * c.args.divisor ≤ 1024 * 256 = mul-le-mul c.requires.number_bound c.requires.le_divisor.1 in
    rw c.requires.inverse_value (inverse c.args.number c.args.divisor 524288 c.requires.le_divisor.0 (omega arith))
