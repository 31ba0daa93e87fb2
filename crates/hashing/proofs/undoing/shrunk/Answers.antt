-- `hashing::shrunk` meets its contract.
use Prim.Native.Nat.{◌-◌, ◌/◌, ◌≤◌}
use native.Mathlib.Omega.{arith}
use borrow.Author.Rules.{rules}
use borrow.Author.Tests.{eq-eqb, ne_eqb}
use Rattle.hashing.specs.Geometry.{shrunk, shrunk_by}
use Rattle.generator.proofs.Numbers.{div_mono}
use Rattle.hashing.proofs.Bounds.{limits, growth_within, spread}
use Rattle.hashing.proofs.Shrinking.{some, after_first}
use Rattle.hashing.proofs.undoing.shrunk.Goals as goal

pub returns-then-expanded-ne0 : goal.returns-then-expanded-ne0
unfolding shrunk shrunk_by
returns-then-expanded-ne0 c = rw (ne_eqb _ _ c.if-expanded-ne0.true)

pub overflow_sub-earlier : goal.overflow_sub-earlier
overflow_sub-earlier c =
    let start = c.before in
    after_first start.args.geometry.parameters start.args.geometry.growth start.requires.parameters_value start.requires.growth_value_2 (eq-eqb _ _ c.if-expanded-ne0.false)

pub count_at-last-requires : goal.count_at-last-requires
count_at-last-requires c =
    let start = c.before.before in
    let p = start.args.geometry.parameters in
    let g = start.args.geometry.growth in
    let fewer : (g.expansions - 1) / p.width ≤ g.expansions / p.width = div_mono p.width (omega arith) in
    record {
      parameters_value = start.requires.parameters_value;
      width_bound = omega (arith, (spread p g (limits p start.requires.parameters_value) (growth_within p g start.requires.growth_value)).doublings);
    }

pub overflow_sub-last : goal.overflow_sub-last
overflow_sub-last c =
    let start = c.before.before.before in
    omega (arith, c.count_at-last.ensures, some start.args.geometry.parameters start.args.geometry.growth start.requires.parameters_value start.requires.growth_value_2)

pub returns : goal.returns
unfolding shrunk shrunk_by
returns c = rw (eq-eqb _ _ c.if-expanded-ne0.false, c.count_at-last.ensures)
