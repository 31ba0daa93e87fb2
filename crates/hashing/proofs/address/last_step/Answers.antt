-- `hashing::last_step` meets its contract.
use mathlib.Core.Path.{◌≡◌, ◌∙◌, ap}
use Prim.Native.Nat.{suc}
use native.Mathlib.Nat.{le_refl}
use native.Mathlib.Omega.{arith}
use borrow.Author.Rules.{rules}
use borrow.Author.Tests.{lt-ltb, le-ltb, lt-leb}
use Rattle.hashing.specs.Home.{step_from, expanded_at, rank_at}
use Rattle.hashing.specs.Moves.{Narrow, code_page}
use Rattle.hashing.proofs.Bounds.{Limits, limits, growth_within, failed, passed}
use Rattle.hashing.proofs.Codes.{code_size, code_count_lem, code_narrow, order_below}
use mathlib.Core.Bool.{not}
use Rattle.hashing.proofs.address.last_step.Goals as goal
use Rattle.hashing.proofs.address.last_step.Goals.{After-moved-order, Start}

bounds : (c : Start) → Limits c.args.geometry.parameters
bounds c = limits _ c.requires.parameters_value

narrow : (c : Start) → Narrow c.args.geometry.parameters c.args.last
narrow c = rw c.requires.last_value (code_narrow _ _ _ (bounds c) (growth_within _ _ c.requires.growth_value) (le_refl c.args.geometry.growth.expansions))

-- the rank that the code tests is that of the page in the last step
order :
    (c : After-moved-order) →
    c.moved-order.result ≡ rank_at c.args.geometry.parameters c.args.geometry.growth.expansions (code_page c.args.geometry.parameters c.args.landing.code c.args.landing.order)
unfolding rank_at
order c =
    let start = c.before.before.before.before.before in
    c.moved-order.ensures
    ∙ rw (start.requires.last_value, code_count_lem start.args.geometry.parameters start.args.geometry.growth.expansions (bounds start))

pub returns-then-not-chosen_last : goal.returns-then-not-chosen_last
unfolding step_from
returns-then-not-chosen_last c = rw (failed _ _ c.chosen_last.ensures (ap not c.if-not-chosen_last.true)) c.page_of-page.ensures

pub moved-order-requires : goal.moved-order-requires
moved-order-requires c =
    let start = c.before.before.before.before in
    record {
      parameters_value = start.requires.parameters_value;
      inverse_value = start.requires.inverse_value;
      landed = start.requires.landed;
      code_bound = (start.requires.code_bound, (narrow start).0);
    }

pub returns-then-geometry-order : goal.returns-then-geometry-order
unfolding step_from expanded_at
returns-then-geometry-order c =
    let start = c.before.before.before.before.before.before.before in
    let e = start.args.geometry.growth.expansions in
    let p = start.args.geometry.parameters in
    rw (
      passed _ _ c.chosen_last.ensures (ap not c.if-not-chosen_last.false),
      lt-leb (suc e) e (omega arith),
      le-ltb (rank_at p e (code_page p start.args.landing.code start.args.landing.order)) start.args.geometry.growth.expanded (omega (arith, c.if-geometry-order.true, order c.before.before)),
    )
    c.page_of-page.ensures

pub page_of-requires : goal.page_of-requires
page_of-requires c =
    let start = c.before.before.before.before.before.before.before in
    let p = start.args.geometry.parameters in
    record {
      parameters_value = start.requires.parameters_value;
      landed = (rw c.moved-order.ensures (order_below p start.args.last (code_page p start.args.landing.code start.args.landing.order) (bounds start)), narrow start);
    }

pub returns : goal.returns
unfolding step_from expanded_at code_page
returns c =
    let start = c.before.before.before.before.before.before.before.before in
    let e = start.args.geometry.growth.expansions in
    let p = start.args.geometry.parameters in
    let l = bounds start in
    rw (
      passed _ _ c.chosen_last.ensures (ap not c.if-not-chosen_last.false),
      lt-leb (suc e) e (omega arith),
      lt-ltb (rank_at p e (code_page p start.args.landing.code start.args.landing.order)) start.args.geometry.growth.expanded (omega (arith, c.if-geometry-order.false, order c.before.before.before)),
      c.page_of.ensures,
      order c.before.before.before,
      start.requires.last_value,
      code_size p e l,
      code_count_lem p e l,
    )
