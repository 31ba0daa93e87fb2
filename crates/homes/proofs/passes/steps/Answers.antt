-- `homes::passes::steps` meets its contract. The invariant: stage, pages and groups are those after i steps.
use Rattle.std.proofs.Common.{◌∙◌, ◌+◌, refl, sym, ap, arith}
use Rattle.hashing.specs.Geometry.{multiplier_of}
use Rattle.hashing.proofs.Bounds.{limits}
use Rattle.homes.specs.Lanes.{block_at, groups_after_lem}
use Rattle.homes.proofs.Prepared.{steady, size-start, count_kept}
use Rattle.homes.proofs.passes.steps.Goals as goal

pub overflow_cast-geometry : goal.overflow_cast-geometry
overflow_cast-geometry c = let l = limits _ c.requires.parameters_value in omega (arith, l.step_most, l.groups_most)

pub sweep_by-sweep-requires : goal.sweep_by-sweep-requires
sweep_by-sweep-requires c = (limits _ c.requires.parameters_value).step_least

pub loop-i-init : goal.loop-i-init
loop-i-init c = (
  c.first_stage-stage.ensures,
  (refl, c.requires.pages_len),
  λ b m h f. absurd (f (size-start c.args.geometry.parameters)),
  c.requires.blocks_2,
)

pub next_stage-stage-requires-clause-i_bound : goal.next_stage-stage-requires-clause-i_bound
next_stage-stage-requires-clause-i_bound c = (steady _ _ _ c.requires.parameters_value c.requires.growth_value c.loop-i-test.true).count_high

pub loop-i-preserved : goal.loop-i-preserved
loop-i-preserved c =
    let p = c.args.geometry.parameters in
    let i = c.loop-i.i in
    let turned = c.turn_all.ensures in (
      c.next_stage-stage.ensures,
      turned.groups_len_2,
      (λ b m h f.
          turned.blocks_4 b m h
          ∙ ap (groups_after_lem (multiplier_of p) p c.args.geometry.growth (block_at c.args.keys.now b) (i + 1)) (sym (count_kept p i (limits _ c.requires.parameters_value) f))),
      turned.blocks_5,
    )
