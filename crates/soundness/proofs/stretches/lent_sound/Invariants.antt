-- `soundness::stretches::lent_sound` meets its contract. The invariant: the first i items are admitted.
use lib.ListN.{drop}
use Rattle.soundness.proofs.Items.{Admitting}
use Rattle.soundness.proofs.stretches.lent_sound.Given as goal

abbrev pub invariant-loop-i : goal.invariant-loop-i
invariant-loop-i l =
    Admitting l.geometry.parameters l.geometry.growth l.separators l.page (drop l.at l.numbers) (drop l.at l.words) (drop l.at l.owners) l.places l.i l.last
