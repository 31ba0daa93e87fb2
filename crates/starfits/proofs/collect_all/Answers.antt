-- `starfits::collect_all` meets its contract.
use mathlib.Core.Path.{refl, ◌∙◌}
use Rattle.std.proofs.KnownBytes.{Consumes-nil}
use Rattle.lines.proofs.Streams.{serves_nothing, serves_then}
use Rattle.catalogues.specs.Runs.{cataloguing}
use Rattle.starfits.proofs.collect_all.Goals as goal

pub loop-init : goal.loop-init
loop-init g c = record { fit = c.requires.fit; room = refl; serves = serves_nothing cataloguing _ _ _ _ (Consumes-nil _) }

pub returns-in_default-clause-serves : goal.returns-in_default-clause-serves
returns-in_default-clause-serves g c =
    serves_then cataloguing _ _ _ _ _ _ _ _ _ c.loop.invariant.serves (rw c.in_default.is at c.in_ok-next.ensures.serves)

pub loop-preserved : goal.loop-preserved
loop-preserved g c =
    record {
      fit = rw c.in-Some.is at c.in_ok-next.ensures.fit_2;
      room = c.collect_some.auto.out ∙ c.loop.invariant.room;
      serves = serves_then cataloguing _ _ _ _ _ _ _ _ _ c.loop.invariant.serves (rw c.in-Some.is at c.in_ok-next.ensures.serves);
    }
