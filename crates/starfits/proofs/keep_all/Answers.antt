-- `starfits::keep_all` meets its contract.
use native.Mathlib.Omega.{arith}
use mathlib.Core.Path.{refl, ◌∙◌}
use Rattle.starfits.proofs.Keeping.{keeps_nothing, keeps_then, keeps_all}
use Rattle.starfits.proofs.keep_all.Goals as goal

pub loop-init : goal.loop-init
loop-init g c =
    record { few = c.requires.0; room = refl; keeps = keeps_nothing _ _ _ c.requires.0 (omega (arith, c.requires)) }

pub returns-then-next-kept-clause-keeps : goal.returns-then-next-kept-clause-keeps
returns-then-next-kept-clause-keeps g c =
    let all = rw c.if-next-kept.true at (c.in_ok-next.ensures.end c.if-next-kept.true) in
    keeps_all _ _ _ _ _ _ _ _ c.loop.invariant.keeps all

pub loop-preserved : goal.loop-preserved
loop-preserved g c =
    record {
      few = c.in_ok-next.ensures.in_bounds;
      room = c.keep_some.auto.given ∙ c.loop.invariant.room;
      keeps = keeps_then _ _ _ _ _ _ _ _ _ c.loop.invariant.keeps c.in_ok-next.ensures.keeps;
    }
