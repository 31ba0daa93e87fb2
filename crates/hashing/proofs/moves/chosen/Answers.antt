-- `hashing::chosen` meets its contract.
use Prim.Native.Nat.{◌+◌, ◌≤◌}
use native.Mathlib.Nat.{mul-le-mul}
use native.Mathlib.Omega.{arith}
use borrow.Author.Rules.{rules}
use Rattle.generator.specs.Generator.{modulus}
use Rattle.hashing.proofs.moves.chosen.Goals as goal

pub overflow_mul-result : goal.overflow_mul-result
overflow_mul-result c =
    let start = c.before in
    let low : c.residue.result ≤ modulus = rw c.residue.ensures (omega arith) in
    let few : start.args.size + 1 ≤ 8 = omega (arith, start.requires.size_bound) in
    omega (arith, mul-le-mul low few)

pub returns : goal.returns
returns c = rw c.residue.ensures
