use mathlib.Core.Path.{refl, ap}
use mathlib.Core.Bool.{not}
use native.Mathlib.Omega.{arith}
use Rattle.hashing.proofs.Bounds.{passed, failed}
use Rattle.duplicates.proofs.Firsts.{agreeing-fails, agreeing-next, agreeing-all}
use Rattle.duplicates.proofs.agreement.all_agree.Goals as goal

pub loop-i-init : goal.loop-i-init
loop-i-init c = record { rest = refl }

pub returns-then-not-pair_agrees : goal.returns-then-not-pair_agrees
returns-then-not-pair_agrees c =
    agreeing-fails _ _ _ _ _ c.loop-i.invariant c.requires.end_in_bounds _ (omega arith) c.loop-i-test.true (failed _ _ c.pair_agrees.ensures (ap not c.if-not-pair_agrees.true))

pub loop-i-preserved : goal.loop-i-preserved
loop-i-preserved c =
    agreeing-next _ _ _ _ _ c.loop-i.invariant c.requires.end_in_bounds _ (omega arith) c.loop-i-test.true (passed _ _ c.pair_agrees.ensures (ap not c.if-not-pair_agrees.false)) _
    (omega arith)

pub returns : goal.returns
returns c = agreeing-all _ _ _ _ _ c.loop-i.invariant c.requires.end_in_bounds (omega arith)
