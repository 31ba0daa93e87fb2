-- `tray_filter::marking::with_bit` meets its contract.
use mathlib.Core.Path.{sym, ◌∙◌}
use Rattle.generator.proofs.Numbers.{shifted}
use Rattle.reports.specs.Bits.{with_bit_lem}
use Rattle.tray_filter.proofs.Hashing.{added-below}
use Rattle.tray_filter.proofs.marking.with_bit.Goals as goal

-- src/marking.rt:54:9
pub returns-then-is_set : goal.returns-then-is_set
unfolding with_bit_lem
returns-then-is_set c = rw (← c.is_set.ensures, c.if-is_set.true)

-- src/marking.rt:56:5
pub overflow_add-result : goal.overflow_add-result
overflow_add-result c =
    let s = c.before.before in
    record { fits = rw (shifted s.args.bit 64 s.requires) (added-below s.args.word s.args.bit s.requires s.ranges.word.fits (sym c.is_set.ensures ∙ c.if-is_set.false)) }

-- src/marking.rt:49:1
pub returns : goal.returns
unfolding with_bit_lem
returns c =
    let s = c.before.before in
    rw (shifted s.args.bit 64 s.requires, ← c.is_set.ensures, c.if-is_set.false)
