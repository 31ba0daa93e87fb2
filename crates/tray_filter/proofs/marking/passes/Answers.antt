-- `tray_filter::marking::passes` meets its contract.
use borrow.Author.Tests.{not-true, not-false}
use Rattle.reports.specs.Bits.{passes as Bits·passes}
use Rattle.reports.proofs.Marks.{hash_below}
use mathlib.Core.Path.{ap}
use mathlib.Core.Bool.{not}
use Rattle.tray_filter.proofs.marking.passes.Goals as goal

-- src/marking.rt:83:9
pub bit_at-requires : goal.bit_at-requires
bit_at-requires c =
    let s = c.before.before.before in
    (s.requires.1, rw c.hash_bits-bits.ensures.0 (hash_below s.args.multiplier 1 s.args.number))

-- src/marking.rt:84:9
pub returns-then-not-bit_at : goal.returns-then-not-bit_at
unfolding Bits·passes
returns-then-not-bit_at c = rw (← c.hash_bits-bits.ensures.0, ← c.bit_at.ensures, not-true c.bit_at.result (ap not c.if-not-bit_at.true))

-- src/marking.rt:86:9
pub bit_at-requires-2 : goal.bit_at-requires-2
bit_at-requires-2 c =
    let s = c.before.before.before.before.before in
    (s.requires.1, rw c.hash_bits-bits.ensures.1.0 (hash_below s.args.multiplier 2 s.args.number))

-- src/marking.rt:87:9
pub returns-then-not-bit_at-2 : goal.returns-then-not-bit_at-2
unfolding Bits·passes
returns-then-not-bit_at-2 c =
    let h = c.hash_bits-bits.ensures in
    rw (← h.0, ← h.1.0, ← c.bit_at.ensures, not-false c.bit_at.result (ap not c.if-not-bit_at.false), ← c.bit_at-2.ensures, not-true c.bit_at-2.result (ap not c.if-not-bit_at-2.true))

-- src/marking.rt:89:5
pub bit_at-requires-3 : goal.bit_at-requires-3
bit_at-requires-3 c =
    let s = c.before.before.before.before.before.before.before in
    (s.requires.1, rw c.hash_bits-bits.ensures.1.1 (hash_below s.args.multiplier 3 s.args.number))

-- src/marking.rt:78:1
pub returns : goal.returns
unfolding Bits·passes
returns c =
    let h = c.hash_bits-bits.ensures in
    rw (← h.0, ← h.1.0, ← h.1.1, ← c.bit_at.ensures, not-false c.bit_at.result (ap not c.if-not-bit_at.false), ← c.bit_at-2.ensures, not-false c.bit_at-2.result (ap not c.if-not-bit_at-2.false)) c.bit_at-3.ensures
