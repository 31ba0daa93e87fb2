-- `lines::put_declination` meets its contract: a minus and the size, or the size alone.
use native.Mathlib.Omega.{arith}
use mathlib.Core.List.{[], ◌∷◌}
use mathlib.Core.Path.{refl, ◌∙◌}
use lib.ListN.{length-set}
use Rattle.lines.proofs.Signs.{widens, minus-fits, size_below, text_below, size_above, text_above}
use Rattle.lines.proofs.Writing.{then}
use borrow.Author.Rules.{rules}
use Rattle.lines.proofs.put_declination.Goals as goal

pub overflow_cast-dec : goal.overflow_cast-dec
overflow_cast-dec c = widens _ c.ranges.dec

pub overflow_sub-dec : goal.overflow_sub-dec
overflow_sub-dec c = minus-fits _ c.ranges.dec

pub overflow_cast-dec-then-dec-lt0 : goal.overflow_cast-dec-then-dec-lt0
overflow_cast-dec-then-dec-lt0 c = size_below _ c.ranges.dec c.if-dec-lt0.true

pub put_field-requires : goal.put_field-requires
put_field-requires c = simp length-set (omega arith)

pub returns-then-dec-lt0 : goal.returns-then-dec-lt0
returns-then-dec-lt0 c =
    rw (text_below c.args.dec c.ranges.dec c.if-dec-lt0.true)
    (then _ (45 ∷ []) _ _ _ _ _ _ (record { buffer = refl; end = refl }) c.put_field.ensures)

pub overflow_cast-dec-2 : goal.overflow_cast-dec-2
overflow_cast-dec-2 c = size_above _ c.ranges.dec c.if-dec-lt0.false

pub returns : goal.returns
returns c =
    rw (text_above c.args.dec c.ranges.dec c.if-dec-lt0.false)
    c.put_field-2.ensures
