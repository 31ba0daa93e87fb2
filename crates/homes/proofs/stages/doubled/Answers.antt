-- `homes::stages::doubled` meets its contract.
use native.Mathlib.Nat.{mod-le, div-le_self}
use native.Mathlib.Omega.{arith}
use Rattle.homes.proofs.Numbers.{double_low, double_high}
use Rattle.homes.proofs.stages.doubled.Goals as goal

pub overflow_mul-rest : goal.overflow_mul-rest
overflow_mul-rest c = let s = c.before in omega (arith, s.requires.count_bound.0, s.requires.count_bound.1.1, mod-le s.args.stage.count s.args.step)

pub overflow_mul-result : goal.overflow_mul-result
overflow_mul-result c = omega (arith, c.requires.count_bound.0)

pub overflow_mul-result-then-rest-step : goal.overflow_mul-result-then-rest-step
overflow_mul-result-then-rest-step c = let s = c.before.before.before.before in omega (arith, s.requires.count_bound.0, s.requires.count_bound.1.0, div-le_self s.args.stage.count s.args.step)

pub returns-then-rest-step : goal.returns-then-rest-step
returns-then-rest-step c =
    let s = c.before.before.before.before in
    let d = double_low s.args.stage.count s.args.step s.requires.le_step.0 (rw s.requires.count_bound.1.1 at c.if-rest-step.true) in
    rw (s.requires.count_bound.1.0, s.requires.count_bound.1.1, d.0, d.1)

pub overflow_mul-result-2 : goal.overflow_mul-result-2
overflow_mul-result-2 c = omega (arith, c.requires.count_bound.0)

pub overflow_mul-result-3 : goal.overflow_mul-result-3
overflow_mul-result-3 c = let s = c.before.before.before.before in omega (arith, s.requires.count_bound.0, s.requires.count_bound.1.0, div-le_self s.args.stage.count s.args.step)

pub overflow_add-result : goal.overflow_add-result
overflow_add-result c = let s = c.before.before.before.before in omega (arith, s.requires.count_bound.0, s.requires.count_bound.1.0, div-le_self s.args.stage.count s.args.step)

pub returns : goal.returns
returns c =
    let s = c.before.before.before.before in
    let d = double_high s.args.stage.count s.args.step s.requires.le_step.0 (rw s.requires.count_bound.1.1 at c.if-rest-step.false) in
    rw (s.requires.count_bound.1.0, s.requires.count_bound.1.1, d.0, d.1)
