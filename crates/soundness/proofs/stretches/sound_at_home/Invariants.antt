-- `soundness::stretches::sound_at_home` meets its contract. The invariant: the first i items are stars at home and in order.
use Rattle.soundness.proofs.AtHome.{AtHome}
use Rattle.soundness.proofs.stretches.sound_at_home.Given as goal

abbrev pub invariant-loop-i : goal.invariant-loop-i
invariant-loop-i l = AtHome l.numbers l.words l.owners l.homes l.at l.to l.places l.own l.i l.last
