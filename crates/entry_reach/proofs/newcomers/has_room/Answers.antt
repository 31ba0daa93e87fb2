use mathlib.Core.Path.{sym, ap}
use Prim.Native.Nat.{ℕ}
use native.Mathlib.Omega.{arith}
use lib.Dec.{eqb}
use Rattle.hashing.proofs.Bounds.{limits}
use Rattle.pages.proofs.Parts.{part-item}
use Rattle.entry_reach.proofs.newcomers.has_room.Goals as goal

pub overflow_sub-end : goal.overflow_sub-end
overflow_sub-end c = omega (arith, (limits _ c.requires.parameters_value).places_least)

pub bounds-numbers-page : goal.bounds-numbers-page
bounds-numbers-page c = let pre = c.requires in omega (arith, pre.places_in_bounds, (limits _ pre.parameters_value).places_least)

pub returns : goal.returns
returns c =
    let s = c.before.before.before in
    ap (λ (n : ℕ). eqb n 0) (sym (part-item _ _ _ _ (omega (arith, (limits _ s.requires.parameters_value).places_least))))
