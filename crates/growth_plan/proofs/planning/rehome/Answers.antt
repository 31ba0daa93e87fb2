use native.Mathlib.Omega.{arith}
use Rattle.growth_plan.proofs.Growing.{rehomed-front, homes-long, home-there, rehomed-next, rehomed-all}
use Rattle.growth_plan.proofs.planning.rehome.Goals as goal

pub loop-i-init : goal.loop-i-init
loop-i-init c = rehomed-front _ _ _ _ _ _ c.requires.homes_value c.requires.homes_stay c.first_moved-first.ensures

pub bounds-homes-i : goal.bounds-homes-i
bounds-homes-i c = omega (arith, homes-long _ _ _ _ _ _ c.loop-i.invariant)

pub next_home-requires : goal.next_home-requires
next_home-requires c =
    record {
      homing = c.requires.homing;
      movable = c.requires.movable;
      value = home-there _ _ _ _ _ _ c.loop-i.invariant c.loop-i-test.true;
    }

pub bounds-homes-i-in-loop-i : goal.bounds-homes-i-in-loop-i
bounds-homes-i-in-loop-i c = omega (arith, homes-long _ _ _ _ _ _ c.loop-i.invariant)

pub loop-i-preserved : goal.loop-i-preserved
loop-i-preserved c = rehomed-next _ _ _ _ _ _ c.loop-i.invariant _ c.loop-i-test.true c.next_home.ensures

pub returns : goal.returns
returns c = rehomed-all _ _ _ _ _ _ c.loop-i.invariant (omega (arith, c.first_moved-first.ensures, c.requires.homes_stay.inside))
