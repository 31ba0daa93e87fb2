-- `own_stars::finding::find_own` meets its contract.
use Rattle.own_stars.proofs.Placing.{Finding}
use Rattle.own_stars.proofs.finding.find_own.Given as goal

abbrev pub invariant-loop-i : goal.invariant-loop-i
invariant-loop-i l = Finding l.places l.page l.numbers l.words l.owners l.homes l.own l.i
