-- `starfile::advancing::step_second` meets its contract.
use borrow.Author.Tests.{not-true, not-false}
use Rattle.placement.specs.Hash.{lent}
use Rattle.starfile.proofs.Steps.{steps_below, step-late, step-advanced}
use Rattle.starfile.proofs.advancing.step_second.Goals as goal

pub returns-then-not-growth : goal.returns-then-not-growth
returns-then-not-growth c =
    let f = lent c.args.separators.now c.args.numbers.now c.args.words.now c.args.owners.now in
    let second = lent c.args.secondseparators.now c.args.secondnumbers.now c.args.secondwords.now c.args.secondowners.now in
    step-late c.args.parameters c.args.growth f second (not-true _ c.if-not-growth.true)

pub write_page-grown-requires : goal.write_page-grown-requires
write_page-grown-requires c = record {
  admitted = c.requires.admitted;
  sized = c.requires.sized;
  pooled = c.requires.pooled;
  step_lt_pages = steps_below _ _ c.requires.growth_value (not-false _ c.if-not-growth.false);
}

pub advanced-requires : goal.advanced-requires
advanced-requires c = steps_below _ _ c.requires.growth_value (not-false _ c.if-not-growth.false)

pub returns : goal.returns
returns c =
    let f = lent c.args.separators.now c.args.numbers.now c.args.words.now c.args.owners.now in
    let second = lent c.args.secondseparators.now c.args.secondnumbers.now c.args.secondwords.now c.args.secondowners.now in
    step-advanced c.args.parameters c.args.growth f second c.write_page-grown.result (not-false _ c.if-not-growth.false) c.write_page-grown.ensures.grows_as c.write_page-grown.ensures.steps_as c.advanced.ensures
