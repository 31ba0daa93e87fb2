-- `hashing::home` meets its contract: the steps that choose the number give the page before the last step.
use mathlib.Core.Path.{◌∙◌, refl, sym}
use Prim.Native.Nat.{◌*◌, ◌%◌, ◌<◌}
use native.Mathlib.Nat.{mul-le-mul, mod-lt}
use native.Mathlib.Omega.{arith}
use borrow.Author.Rules.{rules}
use Rattle.generator.specs.Generator.{modulus, scrambled}
use Rattle.hashing.specs.Geometry.{multiplier_of}
use Rattle.hashing.specs.Home.{after_steps}
use Rattle.hashing.proofs.Bounds.{Limits, Within, Spread, limits, growth_within, spread}
use Rattle.hashing.proofs.Codes.{Passed, passed, chosen-rising, home-key}
use Rattle.hashing.proofs.address.home.Lts as lts
use Rattle.hashing.proofs.address.home.Tie as tie
use Rattle.hashing.proofs.address.home.Reads as reads
use Rattle.hashing.proofs.address.home.Goals as goal
use Rattle.hashing.proofs.address.home.Goals.{After-follow-landing, Start}

abbrev After-first_page-start : Type 0
After-first_page-start = lts.After-first_page tie.the-claims reads.Pre reads.Post tie.handed_clauses

bounds : (c : Start) → Limits c.args.geometry.parameters
bounds c = limits _ c.requires.parameters_value

within : (c : Start) → Within c.args.geometry.parameters c.args.geometry.growth
within c = growth_within _ _ c.requires.growth_value

state : (c : Start) → Spread c.args.geometry.parameters c.args.geometry.growth
state c = spread _ _ (bounds c) (within c)

abbrev first : After-first_page-start → Start
first c = c.before.before.before.before.before

low : (c : After-first_page-start) → c.first_page-start.result < (first c).args.geometry.parameters.width * (first c).args.geometry.parameters.groups
low c =
    let l = bounds (first c) in
    let p = (first c).args.geometry.parameters in
    let x = scrambled (multiplier_of p) 1 ((first c).args.number % modulus) in
    let below : x % (p.width * p.groups) < p.width * p.groups = mod-lt x (mul-le-mul {n₁ = 1} {m₁ = 1} l.width_least l.groups_least) in
    omega (arith, c.first_page-start.ensures)

ends :
    (c : After-follow-landing) →
    Passed (multiplier_of (first c.before.before).args.geometry.parameters) (first c.before.before).args.geometry.parameters (first c.before.before).args.geometry.growth ((first c.before.before).args.number % modulus) c.follow-landing.result
unfolding after_steps
ends c =
    let start = first c.before.before in
    passed (multiplier_of start.args.geometry.parameters) _ _ (start.args.number % modulus) _ _ _ (bounds start) (within start) (low c.before.before) c.first_page-start.ensures c.choose-choice.ensures.steps_after c.follow-landing.ensures

pub choose-choice-requires : goal.choose-choice-requires
choose-choice-requires c =
    let start = c.before.before in
    record {
      table_value = start.requires.table_value;
      parameters_value = start.requires.parameters_value;
      expansions_bound = (state start).expansions_most;
      key_lt_modulus = omega arith;
      steps_len = refl;
    }

pub first_page-start-requires : goal.first_page-start-requires
first_page-start-requires c =
    let start = c.before.before.before.before.before in
    record {
      table_value = start.requires.table_value;
      parameters_value = start.requires.parameters_value;
      key_lt_modulus = omega arith;
    }

pub follow-landing-requires : goal.follow-landing-requires
follow-landing-requires c =
    let start = first c.before in
    let chose = c.choose-choice.ensures in record {
      parameters_value = start.requires.parameters_value;
      inverse_value = c.inverse_of-inverse.ensures;
      steps_len = chose.steps_len_2;
      count_bound = omega (arith, chose.count_le_expansions, (state start).expansions_most);
      narrow_rising = chosen-rising (multiplier_of start.args.geometry.parameters) _ _ (start.args.number % modulus) 10 _ (bounds start) (within start) (state start).doublings chose.steps_after;
      start_bound = low c.before;
    }

pub last_step-requires : goal.last_step-requires
last_step-requires c =
    let start = first c.before.before in
    let chose = c.choose-choice.ensures in
    record {
      table_value = start.requires.table_value;
      parameters_value = start.requires.parameters_value;
      growth_value = start.requires.growth_value;
      inverse_value = c.inverse_of-inverse.ensures;
      key_lt_modulus = omega arith;
      last_value = chose.last_value;
      landed = (ends c).landed;
      code_bound = rw chose.last_value (ends c).level;
    }

pub returns : goal.returns
returns c =
    let start = first c.before.before.before in
    c.last_step.ensures
    ∙ sym (ends c.before).same
    ∙ home-key (multiplier_of start.args.geometry.parameters) start.args.geometry.parameters start.args.geometry.growth start.args.number
