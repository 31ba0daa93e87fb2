-- `tray_filter::marking::hash_bits` meets its contract.
use mathlib.Core.Path.{◌≡◌, ◌∙◌}
use native.Mathlib.Omega.{arith}
use Rattle.generator.specs.Generator.{scrambled}
use Rattle.reports.specs.Bits.{hash_bit}
use Rattle.tray_filter.proofs.Hashing.{first-scrambled, next-scrambled, valid-below}
use Rattle.tray_filter.proofs.marking.hash_bits.Goals as goal

-- src/marking.rt:25:9
pub residue-once-requires : goal.residue-once-requires
residue-once-requires c = (valid-below _ c.requires, omega arith)

-- src/marking.rt:26:9
pub residue-twice-requires : goal.residue-twice-requires
residue-twice-requires c = (valid-below _ c.requires, rw c.residue-once.ensures (omega arith))

-- src/marking.rt:27:9
pub residue-thrice-requires : goal.residue-thrice-requires
residue-thrice-requires c = (valid-below _ c.requires, rw c.residue-twice.ensures (omega arith))

-- src/marking.rt:21:1
pub returns : goal.returns
unfolding hash_bit
returns c =
    let s = c.before.before.before in
    let a = s.args.multiplier in
    let k = s.args.number in
    let one : c.residue-once.result ≡ scrambled a 1 k = c.residue-once.ensures ∙ first-scrambled a k in
    let two : c.residue-twice.result ≡ scrambled a 2 k = c.residue-twice.ensures ∙ rw one (next-scrambled a 1 k) in
    let three : c.residue-thrice.result ≡ scrambled a 3 k = c.residue-thrice.ensures ∙ rw two (next-scrambled a 2 k) in
    (rw one, (rw two, rw three))
