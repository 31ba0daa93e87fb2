use Rattle.generator.proofs.Powers.{the_other}
use Rattle.hashing.proofs.Bounds.{limits}
use Rattle.soundness.proofs.testing.items_beyond.Goals as goal

pub items_by-requires-2-clause-parameters_value : goal.items_by-requires-2-clause-parameters_value
items_by-requires-2-clause-parameters_value c =
    let valid = c.requires.parameters_value in
    (valid, the_other _ (limits _ valid).multiplier_valid c.if-geometry-eq48271.false)
