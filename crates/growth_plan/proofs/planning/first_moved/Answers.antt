use Prim.Native.Nat.{◌*◌, ◌≤◌}
use native.Mathlib.Nat.{mul-le-mul}
use native.Mathlib.Omega.{arith}
use Rattle.hashing.specs.Geometry.{highest}
use Rattle.hashing.proofs.Bounds.{limits, growth_within}
use Rattle.growth_plan.proofs.planning.first_moved.Goals as goal

pub overflow_mul-result : goal.overflow_mul-result
unfolding highest
overflow_mul-result c =
    let l = limits _ c.requires.parameters_value in
    let high : c.highest_address.result ≤ 1024 = omega (arith, c.highest_address.ensures, (growth_within _ _ c.requires.growth_value).pages_fit, l.pages_most) in
    let product : c.highest_address.result * c.args.geometry.parameters.places ≤ 1024 * 32 = mul-le-mul high l.places_most in
    record { fits = omega (arith, product) }

pub returns-then-back : goal.returns-then-back
returns-then-back c = rw (c.if-back.true, c.highest_address.ensures)
