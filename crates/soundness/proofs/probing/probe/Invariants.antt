-- `soundness::probing::probe` meets its contract. The invariant: none of the pages probed is the first.
-- Assumes nothing.
use lib.ListN.{take}
use Rattle.placement.specs.Shape.{hash_from}
use Rattle.soundness.proofs.Probed.{Probed}
use Rattle.soundness.proofs.probing.probe.Given as goal

abbrev pub invariant-loop-page : goal.invariant-loop-page
invariant-loop-page l = Probed (hash_from l.parameters l.home) (take l.stop l.separators) l.number l.page
