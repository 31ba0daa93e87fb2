-- `generator::residue` meets its contract: the halves of the product add up to the same remainder.
use mathlib.Core.Path.{◌∙◌, sym}
use Prim.Native.Nat.{ℕ, ◌*◌, ◌≤◌}
use native.Mathlib.Nat.{mul-le-mul, mod-eq_of_lt, mod-eq-sub-mod}
use native.Mathlib.Omega.{arith}
use Rattle.generator.proofs.Numbers.{halves}
use Rattle.generator.proofs.signatures.residue.Goals as goal
use Rattle.generator.proofs.signatures.residue.Goals.{Start}

abbrev product : Start → ℕ
product c = c.args.factor * c.args.key

product-most : (c : Start) → product c ≤ 2147483646 * 2147483646
product-most c =
    let factor : c.args.factor ≤ 2147483646 = omega (arith, c.requires.0) in
    let key : c.args.key ≤ 2147483646 = omega (arith, c.requires.1) in
    mul-le-mul factor key

pub overflow_mul-product : goal.overflow_mul-product
overflow_mul-product c = omega (arith, product-most c)

pub overflow_add-sum : goal.overflow_add-sum
overflow_add-sum c = omega (arith, product-most c)

pub returns-then-sum-lt2147483647 : goal.returns-then-sum-lt2147483647
returns-then-sum-lt2147483647 c = let start = c.before in sym (mod-eq_of_lt c.if-sum-lt2147483647.true) ∙ halves (product start)

pub overflow_cast-result-2 : goal.overflow_cast-result-2
overflow_cast-result-2 c = omega (arith, product-most c.before)

pub returns : goal.returns
returns c =
    let start = c.before in
    let high : product start ≤ 2147483646 * 2147483646 = product-most start in
    sym (mod-eq-sub-mod c.if-sum-lt2147483647.false ∙ mod-eq_of_lt (omega arith)) ∙ halves (product start)
