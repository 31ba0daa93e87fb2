-- `homes::blocks::regroup` meets its contract.
use Prim.Native.Nat.{◌≤◌}
use native.Mathlib.Nat.{mul-le-mul_right}
use native.Mathlib.Omega.{arith}
use borrow.Author.Rules.{rules}
use Rattle.homes.proofs.blocks.regroup.Goals as goal

pub returns-then-stage-width : goal.returns-then-stage-width
returns-then-stage-width c = c.requires.groups_value c.if-stage-width.true

pub groups_of-requires : goal.groups_of-requires
groups_of-requires c =
    let start = c.before.before.before in
    let small : start.args.stage.size ≤ 4 = omega (arith, c.if-stage-width.false, start.requires.width_bound.0) in
    let rows = mul-le-mul_right start.args.stage.count small in
    record {
      le_count = start.requires.width_bound.1;
      under = (λ j b. omega (arith, start.requires.under j b, rows));
      groups_len = start.requires.groups_len;
    }
