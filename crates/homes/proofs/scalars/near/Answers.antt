-- `homes::scalars::near` meets its contract: the halves of the product add up to the same remainder, twice.
use mathlib.Core.Path.{◌≡◌, ◌∙◌, ap}
use Prim.Native.Nat.{ℕ, ◌+◌, ◌*◌, ◌/◌, ◌%◌, ◌≤◌}
use native.Mathlib.Nat.{mod-eq_of_lt, mul_assoc, mul-le-mul}
use native.Mathlib.Omega.{arith}
use borrow.Author.Rules.{rules}
use Rattle.generator.specs.Generator.{modulus}
use Rattle.homes.proofs.Numbers.{folded, folded-is, folded-most, near-is, near-most}
use Rattle.homes.proofs.scalars.near.Goals as goal
use Rattle.homes.proofs.scalars.near.Goals.{Start}

abbrev product : Start → ℕ
product c = 2 * c.args.factor % 4294967296 * (c.args.key % 4294967296)

abbrev half : Start → ℕ
half c = c.args.factor * c.args.key

product_is : (c : Start) → product c ≡ 2 * half c
product_is c =
    let factor : 2 * c.args.factor % 4294967296 ≡ 2 * c.args.factor = mod-eq_of_lt (omega (arith, c.requires.factor_lt_modulus)) in
    let key : c.args.key % 4294967296 ≡ c.args.key = mod-eq_of_lt (omega (arith, c.requires.key_bound)) in
    rw (factor, key) (mul_assoc 2 c.args.factor c.args.key)

half-most : (c : Start) → half c ≤ 2147483646 * 2147483648
half-most c =
    let factor : c.args.factor ≤ 2147483646 = omega (arith, c.requires.factor_lt_modulus) in
    mul-le-mul factor c.requires.key_bound

sum_is : (c : Start) → folded (product c) ≡ half c / 2147483648 + half c % 2147483648
sum_is c = ap folded (product_is c) ∙ folded-is (half c)

sum-most : (c : Start) → folded (product c) ≤ 4294967293
sum-most c = rw (sum_is c) (folded-most (half c) (half-most c))

low : (c : Start) → folded (product c) / 2147483648 + folded (product c) % 2147483648 ≤ modulus
low c = near-most (folded (product c)) (sum-most c)

pub overflow_mul-product-2 : goal.overflow_mul-product-2
overflow_mul-product-2 c = omega (arith, product_is c, half-most c)

pub overflow_cast-sum : goal.overflow_cast-sum
overflow_cast-sum c = omega (arith, product_is c, half-most c)

pub overflow_add-sum : goal.overflow_add-sum
overflow_add-sum c = omega (arith, product_is c, half-most c)

pub overflow_add-result : goal.overflow_add-result
overflow_add-result c = omega (arith, sum-most c)

pub returns : goal.returns
returns c = (near-is (half c) (folded (product c)) (sum_is c), low c)
