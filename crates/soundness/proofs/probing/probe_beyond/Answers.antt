use Rattle.generator.proofs.Powers.{the_other}
use Rattle.hashing.proofs.Bounds.{limits}
use Rattle.soundness.proofs.probing.probe_beyond.Goals as goal

pub probe_by-requires-2-clause-parameters_value : goal.probe_by-requires-2-clause-parameters_value
probe_by-requires-2-clause-parameters_value c =
    let valid = c.requires.parameters_value in
    (valid, the_other _ (limits _ valid).multiplier_valid c.if-parameters-eq48271.false)
