-- `soundness::stretches::first_unsound_near` meets its contract. The invariant: the pages before this one are sound.
use Rattle.placement.specs.Hash.{sound_at, lent}
use Rattle.soundness.proofs.Lent.{Passed}
use Rattle.soundness.proofs.stretches.first_unsound_near.Given as goal

abbrev pub invariant-loop-page : goal.invariant-loop-page
invariant-loop-page l =
    Passed (sound_at l.geometry.parameters l.geometry.growth (lent l.separators l.numbers l.words l.owners)) l.from l.stop l.page
