use mathlib.Core.Path.{◌∙◌, ap, sym}
use Rattle.generator.specs.Generator.{multipliers}
use Rattle.hashing.specs.Geometry.{multiplier_of}
use Rattle.hashing.proofs.Bounds.{limits}
use Rattle.placement.proofs.Prepared.{whole_long, whole-signers}
use Rattle.soundness.proofs.stretches.first_unsound_by.Goals as goal

pub multipliers-table-requires : goal.multipliers-table-requires
multipliers-table-requires g c =
    let p = c.requires.parameters_value in
    rw (← p.1) (limits _ p.0).multiplier_valid

pub first_unsound-requires : goal.first_unsound-requires
first_unsound-requires g c =
    let p = c.requires in
    let table = c.multipliers-table.ensures ∙ ap multipliers (sym p.parameters_value.1) in
    record {
      signers = whole-signers table p.parameters_value.0;
      table_len = whole_long (multiplier_of c.args.geometry.parameters) table;
      homed_items = p.homed_items;
    }
