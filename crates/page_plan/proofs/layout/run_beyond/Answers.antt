-- One table or the other serves.
use Rattle.generator.proofs.Powers.{the_other}
use Rattle.hashing.proofs.Bounds.{limits}
use Rattle.page_plan.proofs.layout.run_beyond.Goals as goal

pub run_by_whole-requires-2-clause-parameters_value : goal.run_by_whole-requires-2-clause-parameters_value
run_by_whole-requires-2-clause-parameters_value c =
    let valid = c.requires.parameters_value in
    (valid, the_other _ (limits _ valid).multiplier_valid c.if-parameters-eq48271.false)
