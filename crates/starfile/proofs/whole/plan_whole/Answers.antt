-- `starfile::whole::plan_whole` meets its contract.
use mathlib.Core.Path.{sym, ◌∙◌}
use Rattle.placement.specs.Hash.{lent}
use Rattle.call_guard.proofs.Admitting.{prepared, tabled}
use Rattle.call_whole_file.proofs.Outcomes.{growth_small}
use Rattle.call_whole_file.proofs.Stepping.{step-movable, step_small}
use Rattle.starfile.proofs.Steps.{growth_refused, growth_planned}
use Rattle.starfile.proofs.whole.plan_whole.Goals as goal

pub first_multipliers-table-requires : goal.first_multipliers-table-requires
first_multipliers-table-requires c = tabled c.requires.admitted

pub accept_growth-outcome-requires : goal.accept_growth-outcome-requires
accept_growth-outcome-requires c =
    let e = sym c.step_of-step.ensures ∙ c.in-To.is in
    record {
      ready = prepared c.first_multipliers-table.ensures c.requires.admitted;
      pool_len = c.requires.poolnumbers_len;
      waiting_len = c.requires.poolwords_len;
      movable = step-movable _ _ _ e c.requires.admitted.homing.growth;
    }

pub grown_by-requires : goal.grown_by-requires
grown_by-requires c =
    let f = lent c.args.separators.now c.args.numbers.now c.args.words.now c.args.owners.now in
    let e = sym c.step_of-step.ensures ∙ c.in-To.is in
    let homing = c.requires.admitted.homing in
    rw c.accept_growth-outcome.ensures (growth_small c.args.parameters c.args.growth f homing.valid _ _ (step_small _ _ _ e homing.valid homing.growth))

pub returns-in-Not : goal.returns-in-Not
returns-in-Not c =
    let f = lent c.args.separators.now c.args.numbers.now c.args.words.now c.args.owners.now in
    growth_refused _ _ f (sym c.step_of-step.ensures ∙ c.in-Not.is) c.unmoved.ensures

pub returns-in-To : goal.returns-in-To
returns-in-To c =
    let f = lent c.args.separators.now c.args.numbers.now c.args.words.now c.args.owners.now in
    growth_planned _ _ f (sym c.step_of-step.ensures ∙ c.in-To.is) c.accept_growth-outcome.ensures c.grown_by.ensures
