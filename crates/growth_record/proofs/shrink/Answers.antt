-- `growth_record::shrink` meets its contract.
use mathlib.Core.Path.{◌∙◌}
use Rattle.placement.specs.Hash.{lent}
use Rattle.calls.specs.Answers.{pooled}
use Rattle.calls.specs.Records.{shrink_under}
use Rattle.growth_record.proofs.Keeping.{shrink_under-keeps, keeps}
use Rattle.growth_record.proofs.shrink.Goals as goal

pub returns-clause-growth_after : goal.returns-clause-growth_after
returns-clause-growth_after c =
    let a = c.args in
    let left = c.shrink-shrunk in
    let f = lent a.separators.now a.numbers.now a.words.now a.owners.now in
    let pool = pooled a.poolnumbers.now a.poolwords.now a.poolowners.now in
    c.kept.ensures ∙ keeps a.growth.now (shrink_under a.parameters a.growth.now f pool) (shrink_under-keeps a.parameters a.growth.now f pool)
    left.result.answer left.result.growth left.ensures.leaves.answers left.ensures.growth_after
