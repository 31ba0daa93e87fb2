-- `starfits::collect_some` meets its contract.
use Rattle.lines.proofs.Streams.{serves_nothing}
use Rattle.catalogues.specs.Runs.{cataloguing}
use Rattle.starfits.proofs.collect_some.Goals as goal

pub returns-then-n-eq0-clause-serves : goal.returns-then-n-eq0-clause-serves
returns-then-n-eq0-clause-serves g c = serves_nothing cataloguing _ _ _ _ (rw c.if-n-eq0.true at c.in_ok-n.ensures.bytes.0)
