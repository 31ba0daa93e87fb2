use native.Mathlib.Omega.{arith}
use Rattle.hashing.specs.Geometry.{multiplier_of}
use Rattle.generator.proofs.Powers.{lent-entry}
use Rattle.page_separator.specs.Probes.{factor_of}
use Rattle.page_separator.proofs.signatures.first_factor.Goals as goal

pub bounds-table-2 : goal.bounds-table-2
bounds-table-2 c = omega (arith, c.requires.long)

pub returns : goal.returns
unfolding factor_of
returns c =
    let s = c.before.before in
    rw (lent-entry (multiplier_of s.args.parameters) _ s.requires.table 2 (omega (arith, s.requires.long)))
