use Rattle.std.proofs.Common.{sym, ap, ◌∙◌}
use Rattle.calls.specs.Due.{stars}
use Rattle.call_due.proofs.Tallies.{trimmed-none, trimmed-block}
use Rattle.call_due.proofs.load.trimmed.Goals as goal

pub loop-front-init : goal.loop-front-init
loop-front-init c = trimmed-none _

pub loop-front-preserved : goal.loop-front-preserved
loop-front-preserved c =
    let k = c.in-Some.ensures.cases in
    trimmed-block _ _ _ c.loop-front.invariant k.0 k.2 (ap stars (sym k.1) ∙ sym c.occupied.ensures ∙ c.if-occupied-ne0.false)
