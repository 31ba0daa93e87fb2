-- `call_whole_file::growth::regrow_file` meets its contract.
use mathlib.Core.Path.{◌∙◌, sym}
use Rattle.placement.specs.Hash.{lent}
use Rattle.calls.specs.Answers.{pooled, cleared}
use Rattle.call_whole_file.proofs.Outcomes.{growth_small}
use Rattle.call_guard.proofs.Admitting.{prepared, tabled}
use Rattle.call_whole_file.proofs.Stepping.{step-movable, step_small, regrow_refused, regrow_stored}
use borrow.Author.Rules.{rules}
use Rattle.call_whole_file.proofs.growth.regrow_file.Goals as goal

pub first_multipliers-table-requires : goal.first_multipliers-table-requires
first_multipliers-table-requires c = tabled c.requires.admitted

pub regrow-outcome-requires : goal.regrow-outcome-requires
regrow-outcome-requires c =
    let e = sym c.step_of-step.ensures ∙ c.in-To.is in
    record {
      ready = prepared c.first_multipliers-table.ensures c.requires.admitted;
      pooled = c.requires.pooled;
      movable = step-movable _ _ _ e c.requires.admitted.homing.growth;
    }

pub grown_by-requires : goal.grown_by-requires
grown_by-requires c =
    let f = lent c.args.separators.now c.args.numbers.now c.args.words.now c.args.owners.now in
    let e = sym c.step_of-step.ensures ∙ c.in-To.is in
    let homing = c.requires.admitted.homing in
    rw c.regrow-outcome.ensures.value
    (growth_small c.args.parameters c.args.growth f homing.valid _ _ (step_small _ _ _ e homing.valid homing.growth))

pub returns-in-Not : goal.returns-in-Not
returns-in-Not c =
    let f = lent c.args.separators.now c.args.numbers.now c.args.words.now c.args.owners.now in
    let pool = pooled c.args.poolnumbers.now c.args.poolwords.now c.args.poolowners.now in
    let refused = regrow_refused _ _ _ f (cleared pool) (sym c.step_of-step.ensures ∙ c.in-Not.is) c.unmoved.ensures in
    record { stores = refused.0; growth_value = refused.1 }

pub returns-in-To : goal.returns-in-To
returns-in-To c =
    let f = lent c.args.separators.now c.args.numbers.now c.args.words.now c.args.owners.now in
    let pool = pooled c.args.poolnumbers.now c.args.poolwords.now c.args.poolowners.now in
    let e = sym c.step_of-step.ensures ∙ c.in-To.is in
    let done = c.regrow-outcome.ensures in
    let stored = regrow_stored _ _ _ e f (cleared pool) done.value done.owners_value c.grown_by.ensures in
    record { stores = stored.0; growth_value = stored.1 }
