-- `tray_filter::marking::mark` meets its contract.
use Rattle.reports.specs.Bits.{marked}
use Rattle.reports.proofs.Bits.{length-bit_set}
use Rattle.reports.proofs.Marks.{hash_below}
use Rattle.tray_filter.proofs.marking.mark.Goals as goal

-- src/marking.rt:72:5
pub set_bit-requires : goal.set_bit-requires
set_bit-requires c =
    let s = c.before.before.before in
    (s.requires.1, rw c.hash_bits-bits.ensures.0 (hash_below s.args.multiplier 1 s.args.number))

-- src/marking.rt:73:5
pub set_bit-requires-2 : goal.set_bit-requires-2
set_bit-requires-2 c =
    let s = c.before.before.before.before.before.before.before in
    (rw (c.set_bit.ensures, length-bit_set) s.requires.1, rw c.hash_bits-bits.ensures.1.0 (hash_below s.args.multiplier 2 s.args.number))

-- src/marking.rt:74:5
pub set_bit-requires-3 : goal.set_bit-requires-3
set_bit-requires-3 c =
    let s = c.before.before.before.before.before.before.before.before.before.before.before in
    (rw (c.set_bit-2.ensures, length-bit_set, c.set_bit.ensures, length-bit_set) s.requires.1, rw c.hash_bits-bits.ensures.1.1 (hash_below s.args.multiplier 3 s.args.number))

-- src/marking.rt:67:1
pub returns : goal.returns
unfolding marked
returns c =
    let h = c.hash_bits-bits.ensures in
    rw (c.set_bit-3.ensures, c.set_bit-2.ensures, c.set_bit.ensures, h.0, h.1.0, h.1.1)
