-- Page after page as `Rolling` says.
use mathlib.Core.Path.{◌≡◌}
use Prim.Native.Nat.{◌+◌}
use lib.ListN.{length}
use Rattle.placement.specs.Hash.{lent}
use Rattle.entry_reach.specs.Entry.{KnownTo}
use Rattle.entry_reach.proofs.PushLoop.{Rolling}
use Rattle.entry_reach.proofs.newcomers.push_within.Given as goal

abbrev pub invariant-loop-at : goal.invariant-loop-at
invariant-loop-at l =
    (length l.pool ≡ length l.initial.pool)
    × ((length l.waiting ≡ length l.initial.waiting)
    × ((length l.planned ≡ length l.initial.planned)
    × (KnownTo l.geometry.parameters l.geometry.growth (lent l.separators l.numbers l.words l.owners) l.pool l.at (l.fn.last + 1)
    × Rolling l.geometry.parameters l.geometry.growth (lent l.separators l.numbers l.words l.owners) l.fn.star.number l.fn.star.page l.pool l.planned l.waiting l.at l.from l.end)))
