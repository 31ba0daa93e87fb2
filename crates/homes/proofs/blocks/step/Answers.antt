-- `homes::blocks::step` meets its contract.
use mathlib.Core.Path.{◌∙◌, refl}
use Prim.Native.Nat.{◌*◌, ◌≤◌}
use native.Mathlib.Nat.{mul-le-mul}
use native.Mathlib.Omega.{arith}
use borrow.Author.Rules.{rules}
use Rattle.homes.specs.Lanes.{Under}
use Rattle.homes.proofs.Prepared.{most-below}
use Rattle.homes.proofs.Steps.{stepped-lanes, orders_under}
use Rattle.homes.proofs.blocks.step.Lts as lts
use Rattle.homes.proofs.blocks.step.Tie as tie
use Rattle.homes.proofs.blocks.step.Reads as reads
use Rattle.homes.proofs.blocks.step.Goals as goal
use Rattle.homes.proofs.blocks.step.Goals.{Start}

abbrev After-ranks : Type 0
After-ranks = lts.After-ranks tie.the-claims reads.Pre reads.Post tie.handed_clauses

first-most : (c : Start) → c.args.stage.size * c.args.stage.count ≤ 7 * 1024
first-most c = mul-le-mul c.requires.rankable.size-most c.requires.rankable.count_most

abbrev start : After-ranks → Start
start c = c.before.before.before.before

under : (c : After-ranks) → Under 1024 c.ranks.new.orders
under c =
    let s = start c in
    orders_under s.args.sweep s.args.stage s.args.groups.now c.ranks.new.orders c.ranks.ensures
    s.requires.rankable
    s.requires.under

pub tests-requires : goal.tests-requires
tests-requires c =
    let start = c.before in
    record {
      factor_lt_modulus = start.requires.factor_lt_modulus.0;
      keys = start.requires.keys;
      most_lt_modulus = rw start.requires.factor_lt_modulus.1 (most-below start.args.stage.size start.requires.rankable.size-least);
      hits_len = refl;
    }

pub moves-requires : goal.moves-requires
moves-requires c = let r = c.before.before.before in record {
  first_bound = omega arith;
  under = under r;
  len = (start r).requires.groups_len.0;
}

pub overflow_mul-stage : goal.overflow_mul-stage
overflow_mul-stage c = omega (arith, first-most (start c.before.before.before.before.before))

pub moves-requires-2 : goal.moves-requires-2
moves-requires-2 c =
    let r = c.before.before.before.before.before.before.before.before in
    record {
      first_bound = omega (arith, first-most (start r));
      under = under r;
      len = (start r).requires.groups_len.1;
    }

pub returns : goal.returns
returns c =
    let r = c.before.before.before.before.before.before.before.before.before in
    let s = start r in
    let hits = r.tests in
    let all =
    stepped-lanes s.args.sweep s.args.stage s.args.groups.now r.ranks.new.orders r.ranks.ensures
    s.args.test.factor
    s.args.test.limit
    s.args.test.most
    s.args.keys.now
    hits.new.hits
    s.requires.factor_lt_modulus.1
    hits.ensures
    in record {
      groups_after = c.moves.ensures ∙ all 0 s.args.groups.now;
      pages_after = c.moves-2.ensures ∙ all (s.args.stage.size * s.args.stage.count) s.args.pages.now;
    }
