-- `homes::stages::test_of` meets its contract.
use mathlib.Core.Path.{◌≡◌}
use Prim.Native.Nat.{◌+◌, ◌*◌, suc}
use native.Mathlib.Omega.{arith}
use borrow.Author.Rules.{rules}
use lib.ListN.{get_or}
use Rattle.generator.specs.Shape.{power}
use Rattle.hashing.specs.Geometry.{multiplier_of}
use Rattle.homes.specs.Stages.{test_at}
use Rattle.homes.proofs.Prepared.{Steady, steady, expanded-most, factor_is, stage_size}
use Rattle.homes.proofs.stages.test_of.Goals as goal
use Rattle.homes.proofs.stages.test_of.Goals.{Start}

state : (c : Start) → Steady c.args.geometry.parameters c.args.i
state c = steady _ _ _ c.requires.parameters_value c.requires.growth_value c.requires.i_le_expansions

factor_eq : (c : Start) → get_or c.args.powers.now (2 * c.args.i + 1) 0 ≡ power (multiplier_of c.args.geometry.parameters) (2 * suc c.args.i)
factor_eq c = rw c.requires.powers_value (factor_is (multiplier_of c.args.geometry.parameters) c.args.i (state c).index_high)

pub bounds-powers-i : goal.bounds-powers-i
bounds-powers-i c = omega (arith, (state c.before.before).index_high)

pub most_chosen-requires : goal.most_chosen-requires
most_chosen-requires c =
    let s = c.before.before.before in
    rw (stage_size s.args.geometry.parameters s.args.i s.args.stage s.requires.stage_value) ((state s).size_low, (state s).size_high)

pub limit-requires : goal.limit-requires
limit-requires c =
    let s = c.before.before.before.before in
    record {
      stage_value = s.requires.stage_value;
      expanded_bound = expanded-most s.args.geometry.parameters s.args.geometry.growth s.requires.parameters_value s.requires.growth_value;
    }

pub returns : goal.returns
unfolding test_at
returns c =
    let s = c.before.before.before.before.before in
    rw (factor_eq s, c.most_chosen.ensures, c.limit.ensures, stage_size s.args.geometry.parameters s.args.i s.args.stage s.requires.stage_value)
