-- The whole table signs every star.
use mathlib.Core.Path.{ap, sym, ◌∙◌}
use native.Mathlib.Omega.{arith}
use Rattle.generator.specs.Generator.{multipliers}
use Rattle.hashing.specs.Geometry.{multiplier_of}
use Rattle.hashing.proofs.Bounds.{limits}
use Rattle.placement.proofs.Prepared.{whole_long, whole-signers}
use Rattle.clean_test.proofs.Counters.{rising-raisable}
use Rattle.clean_test.proofs.counts.first_raisable_by.Goals as goal

pub multipliers-table-requires : goal.multipliers-table-requires
multipliers-table-requires g c =
    let p = c.requires.parameters_value in
    rw (← p.1) (limits _ p.0).multiplier_valid

pub count_pages-end-requires-clause-signers : goal.count_pages-end-requires-clause-signers
count_pages-end-requires-clause-signers g c =
    let p = c.requires.parameters_value in
    whole-signers (c.multipliers-table.ensures ∙ ap multipliers (sym p.1)) p.0

pub returns : goal.returns
returns g c =
    let r = c.requires in
    let m = multiplier_of c.args.geometry.parameters in
    let most = (limits c.args.geometry.parameters r.parameters_value.0).pages_most in
    let table = c.multipliers-table.ensures ∙ ap multipliers (sym r.parameters_value.1) in
    let done = c.count_pages-end.ensures.value (omega (arith, whole_long m table, r.homed.high, most)) in
    c.first_rising.ensures
    ∙ rw done
    (rising-raisable c.args.geometry _ _ _ _ _ r.homed.low (omega (arith, r.homed.high, most)) (rw done at c.count_pages-end.ensures.passers_counted_2))
