-- `home_update::last_code` meets its contract.
use mathlib.Core.Path.{refl}
use Prim.Native.Nat.{◌+◌, ◌/◌, ◌%◌, ◌≤◌}
use native.Mathlib.Nat.{mod-lt, div-le_self}
use native.Mathlib.Omega.{arith}
use Rattle.hashing.specs.Geometry.{size_at}
use Rattle.hashing.specs.Moves.{code_at}
use Rattle.hashing.proofs.Bounds.{Limits, limits, growth_within, spread}
use Rattle.home_update.proofs.growing.last_code.Goals as goal
use Rattle.home_update.proofs.growing.last_code.Goals.{Start}

bounds : (c : Start) → Limits c.args.geometry.parameters
bounds c = limits _ c.requires.parameters_value

most : (c : Start) → (c.args.geometry.growth.expansions / c.args.geometry.parameters.width ≤ 32) × (c.args.geometry.parameters.width + c.args.geometry.growth.expansions % c.args.geometry.parameters.width ≤ 8)
most c =
    let e = c.args.geometry.growth.expansions in
    let w = c.args.geometry.parameters.width in
    let s = spread _ _ (bounds c) (growth_within _ _ c.requires.growth_value) in
    (omega (arith, div-le_self e w, s.expansions_most), omega (arith, mod-lt e {m = w} (bounds c).width_least, (bounds c).width_most))

pub nonzero_div-result : goal.nonzero_div-result
nonzero_div-result c = (bounds (c)).width_least

pub overflow_mul-result : goal.overflow_mul-result
overflow_mul-result c = omega (arith, most (c))

pub nonzero_rem-result : goal.nonzero_rem-result
nonzero_rem-result c = (bounds (c)).width_least

pub overflow_add-result : goal.overflow_add-result
overflow_add-result c = omega (arith, most (c))

pub overflow_add-result-2 : goal.overflow_add-result-2
overflow_add-result-2 c = omega (arith, most (c))

pub overflow_cast-result : goal.overflow_cast-result
overflow_cast-result c = omega (arith, most (c))

pub returns : goal.returns
unfolding code_at size_at
returns c = refl
