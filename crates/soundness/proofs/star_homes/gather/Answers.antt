use mathlib.Core.Path.{sym, ◌∙◌}
use native.Mathlib.Omega.{arith}
use lib.ListN.{length-drop}
use lib.Seq.{get_or-drop}
use Rattle.soundness.proofs.Stars.{star-byte, taking-none, taking-next}
use Rattle.soundness.proofs.star_homes.gather.Goals as goal

pub loop-i-init : goal.loop-i-init
loop-i-init c = taking-none _ _ c.requires.block_len

pub loop-i-preserved : goal.loop-i-preserved
loop-i-preserved c =
    let a = c.args in
    taking-next c.loop-i.invariant (omega (arith, length-drop a.first a.numbers.now)) c.if-stars-eq32.false (sym (get_or-drop a.first a.numbers.now c.loop-i.i 0)) (c.from-stars.ensures ∙ star-byte _)
