use mathlib.Core.Path.{refl, ap}
use mathlib.Core.Bool.{not}
use Rattle.hashing.proofs.Bounds.{passed, failed}
use Rattle.mending.proofs.Items.{valid-fails, valid-next, valid-all}
use Rattle.mending.proofs.contents.items_valid.Goals as goal

pub loop-i-init : goal.loop-i-init
loop-i-init c = record { rest = refl }

pub returns-then-not-item_valid : goal.returns-then-not-item_valid
returns-then-not-item_valid c =
    valid-fails _ _ _ _ c.loop-i.invariant c.requires.0 c.requires.1 c.loop-i-test.true (failed _ _ c.item_valid.ensures (ap not c.if-not-item_valid.true))

pub loop-i-preserved : goal.loop-i-preserved
loop-i-preserved c =
    valid-next _ _ _ _ c.loop-i.invariant c.requires.0 c.requires.1 c.loop-i-test.true (passed _ _ c.item_valid.ensures (ap not c.if-not-item_valid.false))

pub returns : goal.returns
returns c = valid-all _ _ _ _ c.loop-i.invariant c.loop-i-test.false
