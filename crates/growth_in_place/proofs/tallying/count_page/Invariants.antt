use mathlib.Core.Path.{◌≡◌}
use Prim.Native.Nat.{◌≤◌}
use lib.ListN.{take}
use Rattle.pages.specs.Page.{part}
use Rattle.growth_in_place.specs.Expansion.{joiners_in}
use Rattle.growth_in_place.proofs.tallying.count_page.Given as goal

abbrev pub invariant-loop-i : goal.invariant-loop-i
invariant-loop-i l =
    (l.count ≤ l.i) × (l.count ≡ joiners_in l.geometry.parameters l.geometry.growth (take l.i (part l.geometry.parameters.places l.page l.numbers)))
