use mathlib.Core.Path.{◌∙◌}
use native.Mathlib.Omega.{arith}
use Rattle.soundness.proofs.Stars.{star-byte, spreading_none, spreading_next, item_of, items_of}
use Rattle.soundness.proofs.star_homes.spread.Goals as goal

pub loop-i-init : goal.loop-i-init
loop-i-init c = spreading_none _ _ _ _

pub loop-i-preserved : goal.loop-i-preserved
loop-i-preserved c =
    let a = c.args in
    let inside = c.loop-i-test.true in
    spreading_next _ _ _ c.loop-i.invariant (omega (arith, items_of a.numbers.now a.first a.items c.requires.0)) (omega arith) (item_of a.numbers.now a.first a.items c.loop-i.i inside) (c.from-star.ensures ∙ star-byte _) c.from.ensures
