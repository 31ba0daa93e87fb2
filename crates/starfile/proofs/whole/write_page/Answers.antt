-- `starfile::whole::write_page` meets its contract.
use mathlib.Core.Path.{sym, ◌∙◌}
use Rattle.placement.specs.Hash.{lent}
use Rattle.call_guard.proofs.Admitting.{prepared, tabled}
use Rattle.call_whole_file.proofs.Outcomes.{growth_small}
use Rattle.call_whole_file.proofs.Stepping.{step-movable, step_small}
use Rattle.starfile.proofs.Steps.{growth_refused, page-kept, growth_planned, page-stepped}
use Rattle.starfile.proofs.whole.write_page.Goals as goal

pub first_multipliers-table-requires : goal.first_multipliers-table-requires
first_multipliers-table-requires c = tabled c.requires.admitted

pub step_page-outcome-requires : goal.step_page-outcome-requires
step_page-outcome-requires c =
    let e = sym c.step_of-way.ensures ∙ c.in-To.is in
    record {
      ready = prepared c.first_multipliers-table.ensures c.requires.admitted;
      sized = c.requires.sized;
      pooled = c.requires.pooled;
      movable = step-movable _ _ _ e c.requires.admitted.homing.growth;
      step_lt_pages = c.requires.step_lt_pages;
    }

pub grown_by-requires : goal.grown_by-requires
grown_by-requires c =
    let f = lent c.args.separators.now c.args.numbers.now c.args.words.now c.args.owners.now in
    let e = sym c.step_of-way.ensures ∙ c.in-To.is in
    let homing = c.requires.admitted.homing in
    rw c.step_page-outcome.ensures.value (growth_small c.args.parameters c.args.growth f homing.valid _ _ (step_small _ _ _ e homing.valid homing.growth))

pub returns-in-Not : goal.returns-in-Not
returns-in-Not c =
    let f = lent c.args.separators.now c.args.numbers.now c.args.words.now c.args.owners.now in
    let second = lent c.args.secondseparators.now c.args.secondnumbers.now c.args.secondwords.now c.args.secondowners.now in
    let e = sym c.step_of-way.ensures ∙ c.in-Not.is in
    record { grows_as = growth_refused _ _ f e c.unmoved.ensures; steps_as = page-kept _ _ f second c.args.step e }

pub returns-in-To : goal.returns-in-To
returns-in-To c =
    let f = lent c.args.separators.now c.args.numbers.now c.args.words.now c.args.owners.now in
    let second = lent c.args.secondseparators.now c.args.secondnumbers.now c.args.secondwords.now c.args.secondowners.now in
    let e = sym c.step_of-way.ensures ∙ c.in-To.is in
    let done = c.step_page-outcome.ensures in
    record {
      grows_as = growth_planned _ _ f e done.value c.grown_by.ensures;
      steps_as = page-stepped _ _ f e second c.args.step done.secondowners_value;
    }
