-- `homes::scalars::divided` meets its contract, by the law of an inverse rounded down.
use mathlib.Core.Path.{◌∙◌, ap}
use Prim.Native.Nat.{◌+◌, ◌*◌, ◌/◌, ◌^◌, ◌≤◌}
use native.Mathlib.Nat.{mul-le-mul}
use native.Mathlib.Omega.{arith}
use borrow.Author.Rules.{rules}
use Rattle.homes.specs.declared.stages.Sweep.{Sweep}
use Rattle.homes.proofs.Prepared.{sweep_inverse, sweep_shift, sweep_quotient}
use Rattle.homes.proofs.scalars.divided.Goals as goal
use Rattle.homes.proofs.scalars.divided.Goals.{Start}

inverse-most : (c : Start) → c.args.sweep.inverse ≤ 65535
inverse-most c = omega (arith, sweep_inverse c.args.sweep.step c.requires.le_step.0, ap (λ (s : Sweep). s.inverse) c.requires.sweep_value)

product-most : (c : Start) → (c.args.t + 1) * c.args.sweep.inverse ≤ 1024 * 65535
product-most c = mul-le-mul {n₁ = c.args.t + 1} {n₂ = 1024} (omega (arith, c.requires.t_bound)) (inverse-most c)

pub overflow_cast-result-2 : goal.overflow_cast-result-2
overflow_cast-result-2 c = omega (arith, inverse-most c.before)

pub overflow_mul-result : goal.overflow_mul-result
overflow_mul-result c = omega (arith, product-most c.before)

pub overflow_cast-result-3 : goal.overflow_cast-result-3
overflow_cast-result-3 c = omega (arith, product-most c.before)

pub overflow_shr-result : goal.overflow_shr-result
overflow_shr-result c =
    let start = c.before.before in
    omega (arith, sweep_shift start.args.sweep.step, ap (λ (s : Sweep). s.shift) start.requires.sweep_value)

pub returns : goal.returns
returns c =
    let start = c.before.before in
    let t = start.args.t in
    ap (λ (s : Sweep). (t + 1) * s.inverse / 65536 / 2 ^ s.shift) start.requires.sweep_value
    ∙ sweep_quotient start.args.sweep.step t start.requires.le_step.0 start.requires.le_step.1 start.requires.t_bound
