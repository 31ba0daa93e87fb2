-- `soundness::stretches::first_unsound` meets its contract. The invariant: the pages before this one are sound.
use Rattle.soundness.specs.Stretch.{sound_of}
use Rattle.soundness.proofs.Lent.{Passed}
use Rattle.soundness.proofs.stretches.first_unsound.Given as goal

abbrev pub invariant-loop-page : goal.invariant-loop-page
invariant-loop-page l = Passed (sound_of l.geometry l.separators l.numbers l.words l.owners l.at l.from) l.from l.stop l.page
