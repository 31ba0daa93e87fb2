-- `homes::stages::next_stage` meets its contract.
use mathlib.Core.Path.{◌∙◌, ap}
use native.Mathlib.Nat.{le_trans}
use native.Mathlib.Omega.{arith}
use Rattle.hashing.proofs.Bounds.{Limits, limits, size-most}
use Rattle.homes.specs.declared.stages.Stage.{Stage}
use Rattle.homes.specs.Stages.{stage_at}
use Rattle.homes.proofs.Prepared.{stage_size, stage_count, stage_grown, stage_doubled}
use Rattle.homes.proofs.stages.next_stage.Goals as goal
use Rattle.homes.proofs.stages.next_stage.Goals.{Start}

bounds : (c : Start) → Limits c.args.parameters
bounds c = limits _ c.requires.parameters_value

pub overflow_cast-width : goal.overflow_cast-width
overflow_cast-width c = omega (arith, (bounds c.before).width_most)

pub overflow_add-size : goal.overflow_add-size
overflow_add-size c = let s = c.before.before in omega (arith, stage_size _ _ _ s.requires.stage_value, size-most s.args.parameters s.args.i (bounds s))

pub overflow_mul-width : goal.overflow_mul-width
overflow_mul-width c = omega (arith, (bounds c.before.before).width_most)

pub returns-then-size-width : goal.returns-then-size-width
returns-then-size-width c = let s = c.before.before.before in stage_grown s.args.parameters s.args.i s.args.stage (bounds s) s.requires.stage_value c.if-size-width.true

pub overflow_cast-parameters : goal.overflow_cast-parameters
overflow_cast-parameters c = let l = bounds c.before.before.before.before in omega (arith, l.step_most, l.groups_most)

pub doubled-requires : goal.doubled-requires
unfolding stage_at
doubled-requires c =
    let s = c.before.before.before.before in
    let l = bounds s in
    let e = s.requires.stage_value in
    let count = stage_count s.args.parameters s.args.i s.args.stage e in record {
      le_step = (l.step_least, le_trans l.step_most l.groups_most);
      count_bound = (rw count s.requires.i_bound, (rw count (ap (λ (x : Stage). x.part) e), rw count (ap (λ (x : Stage). x.rest) e)));
    }

pub returns : goal.returns
returns c =
    let s = c.before.before.before.before.before in
    c.doubled.ensures
    ∙ stage_doubled s.args.parameters s.args.i s.args.stage (bounds s) s.requires.stage_value c.if-size-width.false
