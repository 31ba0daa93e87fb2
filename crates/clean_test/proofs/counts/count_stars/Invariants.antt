-- The stars among the first i items are counted.
use mathlib.Core.Path.{◌≡◌}
use lib.ListN.{take, drop}
use Rattle.clean_test.specs.Raising.{stars_among}
use Rattle.clean_test.proofs.counts.count_stars.Given as goal

abbrev pub invariant-loop-number : goal.invariant-loop-number
invariant-loop-number l = l.stars ≡ stars_among (take l.number-index (drop l.first l.numbers))
