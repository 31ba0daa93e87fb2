-- `homes::blocks::turn` meets its contract: the step of the lanes is the step of the rule.
use mathlib.Core.Path.{◌≡◌, ◌∙◌}
use Prim.Native.Nat.{suc, ◌*◌, ◌≤◌}
use Rattle.generator.specs.Shape.{power}
use Rattle.hashing.specs.Geometry.{multiplier_of}
use Rattle.hashing.proofs.Bounds.{Limits, limits}
use Rattle.homes.specs.Lanes.{pages_after_lem}
use Rattle.homes.proofs.Lists.{lanes-length}
use Rattle.homes.proofs.Prepared.{Steady, steady, ready, stage_size, stage_count, test-factor, test-most, test-limit}
use Rattle.generator.proofs.Powers.{power_below}
use Rattle.homes.proofs.Steps.{groups-under, pages-under, groups-known, pages-length, steps_are}
use Rattle.homes.proofs.blocks.turn.Goals as goal
use Rattle.homes.proofs.blocks.turn.Goals.{Start}

bounds : (c : Start) → Limits c.args.geometry.parameters
bounds c = limits c.args.geometry.parameters c.requires.parameters_value

state : (c : Start) → Steady c.args.geometry.parameters c.args.i
state c = steady c.args.geometry.parameters c.args.geometry.growth c.args.i c.requires.parameters_value c.requires.growth_value c.requires.i_le_expansions

factor_eq : (c : Start) → c.args.test.factor ≡ power (multiplier_of c.args.geometry.parameters) (2 * suc c.args.i)
factor_eq c = test-factor c.args.geometry.parameters c.args.geometry.growth c.args.i c.args.test c.requires.test_value

pages-are :
    (c : Start) →
    c.args.pages.now ≡ pages_after_lem (multiplier_of c.args.geometry.parameters) c.args.geometry.parameters c.args.geometry.growth c.args.keys.now c.args.i
pages-are c = c.requires.pages_value

pub regroup-requires : goal.regroup-requires
regroup-requires c =
    let s = c.before in
    let p = s.args.geometry.parameters in
    let g = s.args.geometry.growth in
    let e = s.requires.sweep_value.1 in
    let count = stage_count p s.args.i s.args.stage e in record {
      width_bound = ((bounds s).width_most, (rw count (state s).count_low, rw count (state s).count_high));
      under = pages-under (multiplier_of p) p g s.args.keys.now s.args.i s.args.stage s.args.pages.now e (pages-are s) (bounds s);
      groups_len = s.requires.keys.1;
      groups_value = groups-known (multiplier_of p) p g s.args.keys.now s.args.i s.args.stage s.args.pages.now e (pages-are s)
          s.args.groups.now
          s.requires.grouped;
    }

pub step-requires : goal.step-requires
step-requires c =
    let s = c.before.before.before.before in
    let p = s.args.geometry.parameters in
    let groups = c.regroup in
    let e = s.requires.sweep_value in
    let some : 1 ≤ s.args.stage.count = rw (stage_count p s.args.i s.args.stage e.1) (state s).count_low in record {
      factor_lt_modulus = (
        rw (factor_eq s) (power_below (multiplier_of p) (2 * suc s.args.i)),
        rw (stage_size p s.args.i s.args.stage e.1) (test-most p s.args.geometry.growth s.args.i s.args.test s.requires.test_value),
      );
      rankable = ready p s.args.i s.args.sweep s.args.stage (bounds s) (state s) e.0 e.1;
      keys = s.requires.keys.0;
      under = groups-under s.args.stage.count s.args.pages.now groups.new.groups some groups.ensures;
      groups_len = (
        rw groups.ensures (lanes-length 8 _),
        rw (pages-are s) (pages-length (multiplier_of p) p s.args.geometry.growth s.args.keys.now s.args.i),
      );
    }

pub returns : goal.returns
returns c =
    let s = c.before.before.before.before.before in
    let p = s.args.geometry.parameters in
    let g = s.args.geometry.growth in
    let e = s.requires.sweep_value in
    let groups = c.regroup in
    let both =
    steps_are (multiplier_of p) p g s.args.i (bounds s) s.requires.i_le_expansions
    s.args.keys.now
    s.args.test.factor
    s.args.sweep
    s.args.stage
    s.args.test.limit
    groups.new.groups
    s.args.pages.now
    (factor_eq s)
    e.0
    e.1
    (test-limit p g s.args.i s.args.test s.requires.test_value)
    groups.ensures
    (pages-are s)
    in
    record {
      groups_after = c.step.ensures.groups_after ∙ both.0;
      pages_after = c.step.ensures.pages_after ∙ both.1;
    }
