use mathlib.Core.Path.{◌≡◌}
use Rattle.growth_in_place.specs.Expansion.{SettledBelow, Moving, KeptStars, runs_to}
use Rattle.growth_in_place.proofs.stars.move_below.Given as goal

abbrev pub invariant-loop-page : goal.invariant-loop-page
invariant-loop-page l =
    Moving l.geometry.parameters l.geometry.growth l.numbers l.words l.owners l.homes
    × KeptStars l.geometry.parameters l.geometry.growth l.initial.numbers l.initial.words l.initial.owners l.numbers l.words l.owners
    × SettledBelow l.geometry.parameters l.geometry.growth l.page l.numbers l.words l.owners
    × (l.runs ≡ runs_to l.geometry.parameters l.geometry.growth l.separators l.page)
