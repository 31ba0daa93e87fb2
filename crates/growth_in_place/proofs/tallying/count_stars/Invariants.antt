use mathlib.Core.Path.{◌≡◌}
use Rattle.growth_in_place.specs.Expansion.{joiners_below, runs_to}
use Rattle.growth_in_place.proofs.tallying.count_stars.Given as goal

abbrev pub invariant-loop-page : goal.invariant-loop-page
invariant-loop-page l =
    (l.total ≡ joiners_below l.geometry.parameters l.geometry.growth l.numbers l.page)
    × (l.runs ≡ runs_to l.geometry.parameters l.geometry.growth l.separators l.page)
