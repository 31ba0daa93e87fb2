use mathlib.Core.Path.{◌∙◌, ap, sym}
use native.Mathlib.Omega.{arith}
use Rattle.generator.specs.Generator.{multipliers}
use Rattle.hashing.specs.Geometry.{multiplier_of}
use Rattle.hashing.proofs.Bounds.{limits}
use Rattle.placement.proofs.Prepared.{whole_long, whole-signers}
use Rattle.soundness.proofs.probing.probe_by.Goals as goal

pub multipliers-table-requires : goal.multipliers-table-requires
multipliers-table-requires g c =
    let p = c.requires.parameters_value in
    rw (← p.1) (limits _ p.0).multiplier_valid

pub probe-requires : goal.probe-requires
probe-requires g c =
    let p = c.requires in
    let table = c.multipliers-table.ensures ∙ ap multipliers (sym p.parameters_value.1) in record {
      signers = whole-signers table p.parameters_value.0;
      home_le_start = (p.home_le_start.0, (p.home_le_start.1.0, omega arith));
      stop_bound = (p.home_le_start.1.1, omega (arith, p.home_le_start, whole_long (multiplier_of c.args.parameters) table));
      number_value = p.number_value;
    }
