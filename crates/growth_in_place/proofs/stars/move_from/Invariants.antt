use lib.ListN.{drop}
use Rattle.growth_in_place.specs.Expansion.{NoneJoins, page_stars, Moving, KeptStars}
use Rattle.growth_in_place.proofs.stars.move_from.Given as goal

abbrev pub invariant-loop-i : goal.invariant-loop-i
invariant-loop-i l =
    Moving l.geometry.parameters l.geometry.growth l.numbers l.words l.owners l.homes
    × KeptStars l.geometry.parameters l.geometry.growth l.initial.numbers l.initial.words l.initial.owners l.numbers l.words l.owners
    × NoneJoins l.geometry.parameters l.geometry.growth (drop l.i (page_stars l.geometry.parameters l.numbers l.words l.owners l.page))
