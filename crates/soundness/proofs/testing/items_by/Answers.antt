use mathlib.Core.Path.{◌∙◌, ap, sym}
use native.Mathlib.Omega.{arith}
use Rattle.generator.specs.Generator.{multipliers}
use Rattle.hashing.specs.Geometry.{multiplier_of}
use Rattle.hashing.proofs.Bounds.{limits}
use Rattle.placement.proofs.Prepared.{whole_long, whole-signers}
use Rattle.soundness.proofs.testing.items_by.Goals as goal

pub multipliers-table-requires : goal.multipliers-table-requires
multipliers-table-requires g c =
    let p = c.requires.parameters_value in
    rw (← p.1) (limits _ p.0).multiplier_valid

pub items_sound-requires : goal.items_sound-requires
items_sound-requires g c =
    let p = c.requires in
    let table = c.multipliers-table.ensures ∙ ap multipliers (sym p.parameters_value.1) in
    record {
      signers = whole-signers table p.parameters_value.0;
      testable = p.testable;
      signable_on = λ i h star. omega (arith, whole_long (multiplier_of c.args.geometry.parameters) table, p.testable.inside, (limits _ p.parameters_value.0).pages_most);
    }
