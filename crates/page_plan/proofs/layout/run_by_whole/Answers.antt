-- The whole table signs every word, so that the run goes to its end.
use Rattle.std.proofs.Common.{ap, sym, arith, ◌∙◌}
use Rattle.generator.specs.Generator.{multipliers}
use Rattle.hashing.specs.Geometry.{multiplier_of}
use Rattle.hashing.proofs.Bounds.{limits}
use Rattle.placement.proofs.Prepared.{whole_long, whole-signers}
use Rattle.page_plan.proofs.layout.run_by_whole.Goals as goal

pub multipliers-table-requires : goal.multipliers-table-requires
multipliers-table-requires g c =
    let p = c.requires.parameters_value in
    rw (← p.1) (limits _ p.0).multiplier_valid

pub settle_run-requires-clause-signers : goal.settle_run-requires-clause-signers
settle_run-requires-clause-signers g c =
    let p = c.requires.parameters_value in
    whole-signers (c.multipliers-table.ensures ∙ ap multipliers (sym p.1)) p.0

pub returns-clause-ended : goal.returns-clause-ended
returns-clause-ended g c =
    let table = c.multipliers-table.ensures ∙ ap multipliers (sym c.requires.parameters_value.1) in
    c.settle_run.ensures.ended (omega (arith, whole_long (multiplier_of c.args.parameters) table))
