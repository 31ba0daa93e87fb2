use Rattle.generator.proofs.Powers.{the_other}
use Rattle.hashing.proofs.Bounds.{limits}
use Rattle.soundness.proofs.stretches.first_unsound_beyond.Goals as goal

pub first_unsound_by-requires-2-clause-parameters_value : goal.first_unsound_by-requires-2-clause-parameters_value
first_unsound_by-requires-2-clause-parameters_value c =
    let valid = c.requires.parameters_value in
    (valid, the_other _ (limits _ valid).multiplier_valid c.if-geometry-eq48271.false)
