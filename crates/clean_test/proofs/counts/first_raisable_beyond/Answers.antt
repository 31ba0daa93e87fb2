-- One table or the other serves.
use Rattle.generator.proofs.Powers.{the_other}
use Rattle.hashing.proofs.Bounds.{limits}
use Rattle.clean_test.proofs.counts.first_raisable_beyond.Goals as goal

pub first_raisable_by-requires-2-clause-parameters_value : goal.first_raisable_by-requires-2-clause-parameters_value
first_raisable_by-requires-2-clause-parameters_value c =
    let valid = c.requires.parameters_value in
    (valid, the_other _ (limits _ valid).multiplier_valid c.if-geometry-eq48271.false)
