-- `survey::lowest_unsound` meets its contract.
use Prim.Native.Nat.{◌-◌}
use Rattle.placement.specs.Hash.{sound_at, lent}
use Rattle.soundness.proofs.Lent.{Passed}
use Rattle.survey.proofs.lowest_unsound.Given as goal

-- the pages below this one are sound
abbrev pub invariant-loop-page : goal.invariant-loop-page
invariant-loop-page l =
    Passed (sound_at l.geometry.parameters l.geometry.growth (lent l.separators l.numbers l.words l.owners)) 0 l.geometry.parameters.pages l.page

abbrev pub decreases-loop-page : goal.decreases-loop-page
decreases-loop-page l = l.pages - l.page
