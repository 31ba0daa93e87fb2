-- `homes::stages::first_stage` meets its contract.
use native.Mathlib.Nat.{div-le_self, mod-le}
use native.Mathlib.Omega.{arith}
use Rattle.hashing.proofs.Bounds.{Limits, limits}
use Rattle.homes.specs.Stages.{stage_at}
use Rattle.homes.proofs.Prepared.{size-start}
use Rattle.hashing.proofs.Homes.{start-count}
use Rattle.homes.proofs.stages.first_stage.Goals as goal
use Rattle.homes.proofs.stages.first_stage.Goals.{Start}

bounds : (c : Start) → Limits c.args.parameters
bounds c = limits _ c.requires

pub overflow_cast-result : goal.overflow_cast-result
overflow_cast-result c = omega (arith, (bounds c.before).width_most)

pub overflow_cast-result-2 : goal.overflow_cast-result-2
overflow_cast-result-2 c = omega (arith, (bounds c.before.before).groups_most)

pub nonzero_div-result : goal.nonzero_div-result
nonzero_div-result c = omega (arith, (bounds c.before.before.before).step_least)

pub overflow_cast-result-3 : goal.overflow_cast-result-3
overflow_cast-result-3 c = let s = c.before.before.before in omega (arith, (bounds s).groups_most, div-le_self s.args.parameters.groups s.args.parameters.step)

pub nonzero_rem-result : goal.nonzero_rem-result
nonzero_rem-result c = omega (arith, (bounds c.before.before.before.before).step_least)

pub overflow_cast-result-4 : goal.overflow_cast-result-4
overflow_cast-result-4 c = let s = c.before.before.before.before in omega (arith, (bounds s).groups_most, mod-le s.args.parameters.groups s.args.parameters.step)

pub returns : goal.returns
unfolding stage_at
returns c = let s = c.before.before.before.before in rw (size-start s.args.parameters, start-count s.args.parameters)
