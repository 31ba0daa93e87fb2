-- The stars gathered by their new homes stand in groups; placing them all is the plan.
use mathlib.Core.Path.{◌≡◌, subst}
use mathlib.Core.Bool.{Bool}
use mathlib.Core.List.{List}
use Prim.Native.Nat.{ℕ, ◌+◌, ◌≤◌}
use native.Mathlib.Omega.{arith}
use lib.ListN.{length, replicate}
use Rattle.hashing.specs.declared.Parameters.{Parameters}
use Rattle.placement.specs.Hash.{lent}
use Rattle.page_plan.specs.Gather.{stretch_words}
use Rattle.page_plan.specs.Plans.{AllPlaced}
use Rattle.removal_reach.specs.Stretch.{StretchReady}
use Rattle.removal_reach.proofs.Ruled.{stars-fit}
use Rattle.growth_plan.proofs.Growing.{next-valid}
use Rattle.growth_plan.proofs.PlannedGrowth.{all-ready, words-fit, settleable, placed-again}
use Rattle.growth_plan.proofs.planning.plan_all.Goals as goal

of_homes_lem : (p : Parameters) (ns hs hs' pool' planned planned' W' : List ℕ) (r : Bool) → hs ≡ hs'
    → AllPlaced p (stretch_words p.places 0 p.pages 0 ns hs) hs pool' planned planned' W' r
    → AllPlaced p (stretch_words p.places 0 p.pages 0 ns hs') hs' pool' planned planned' W' r
of_homes_lem p ns hs hs' pool' planned planned' W' r e A =
    subst (λ (x : List ℕ). AllPlaced p (stretch_words p.places 0 p.pages 0 ns x) x pool' planned planned' W' r) e A

pub gather-end-requires : goal.gather-end-requires
gather-end-requires c =
    let ready : let p = c.args.geometry.parameters in let ns = c.args.numbers.now in StretchReady p 0 p.pages (lent (replicate p.pages 0) ns ns ns) c.rehome.new.homes c.args.waiting.now c.args.waiting.now = all-ready _ _ _ _ _ c.requires.homing.valid (next-valid c.args.back _ _ c.requires.homing.valid c.requires.homing.growth c.requires.movable) c.requires.numbers_len.0 c.requires.numbers_len.1 c.requires.numbers_value c.rehome.ensures in
    let L = ready in record {
      places_bound = (L.places_most, (L.some, L.pages_most));
      places_in_bounds = (L.numbers_long, L.pool_long);
      numbers_value = L.valid;
      homes_value = L.within;
      count_in_bounds = (omega (arith, L.pages_most), omega arith);
      numbers_in_bounds = stars-fit _ _ _ _ _ _ _ L _;
    }

pub place_all-requires : goal.place_all-requires
place_all-requires c =
    let ready : let p = c.args.geometry.parameters in let ns = c.args.numbers.now in StretchReady p 0 p.pages (lent (replicate p.pages 0) ns ns ns) c.rehome.new.homes c.args.waiting.now c.args.waiting.now = all-ready _ _ _ _ _ c.requires.homing.valid (next-valid c.args.back _ _ c.requires.homing.valid c.requires.homing.growth c.requires.movable) c.requires.numbers_len.0 c.requires.numbers_len.1 c.requires.numbers_value c.rehome.ensures in
    let enough : let p = c.args.geometry.parameters in 0 + length (stretch_words p.places 0 p.pages 0 c.args.numbers.now c.rehome.new.homes) ≤ length c.args.waiting.now = words-fit _ _ _ _ _ _ _ ready in
    let L = ready in
    settleable _ _ _ _ _ c.gather-end.ensures.scatters enough c.gather-end.auto.waiting _ c.gather-end.ensures.value _ _ c.requires.homing.valid
    (omega (arith, c.requires.pages_in_bounds)) L.pool_long (omega (arith, L.pages_most, c.gather-end.auto.ends)) L.waiting-most

pub returns : goal.returns
returns c =
    let ready : let p = c.args.geometry.parameters in let ns = c.args.numbers.now in StretchReady p 0 p.pages (lent (replicate p.pages 0) ns ns ns) c.rehome.new.homes c.args.waiting.now c.args.waiting.now = all-ready _ _ _ _ _ c.requires.homing.valid (next-valid c.args.back _ _ c.requires.homing.valid c.requires.homing.growth c.requires.movable) c.requires.numbers_len.0 c.requires.numbers_len.1 c.requires.numbers_value c.rehome.ensures in
    let enough : let p = c.args.geometry.parameters in 0 + length (stretch_words p.places 0 p.pages 0 c.args.numbers.now c.rehome.new.homes) ≤ length c.args.waiting.now = words-fit _ _ _ _ _ _ _ ready in
    of_homes_lem _ _ _ _ _ _ _ _ _ c.rehome.ensures
    (placed-again _ _ _ _ _ c.gather-end.ensures.scatters enough c.gather-end.auto.waiting _ c.gather-end.ensures.value _ _ _ _ _ _ c.place_all.ensures)
