-- Page after page as `Rolling` says.
use mathlib.Core.Path.{◌≡◌}
use lib.ListN.{length}
use Rattle.placement.specs.Hash.{lent}
use Rattle.entry_reach.specs.Entry.{KnownTo}
use Rattle.entry_cascade.proofs.Rolling.{Rolling}
use Rattle.entry_cascade.proofs.pushing.push_along.Given as goal

abbrev pub invariant-loop-at : goal.invariant-loop-at
invariant-loop-at l =
    (length l.pool ≡ length l.initial.pool)
    × ((length l.waiting ≡ length l.initial.waiting)
    × ((length l.planned ≡ length l.initial.planned)
    × (KnownTo l.geometry.parameters l.geometry.growth (lent l.separators l.numbers l.words l.owners) l.pool l.at l.tested
    × Rolling l.geometry.parameters l.geometry.growth (lent l.separators l.numbers l.words l.owners) l.number l.page l.pool l.planned l.waiting l.at l.from l.end)))
