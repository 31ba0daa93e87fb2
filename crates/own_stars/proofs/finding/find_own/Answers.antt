-- `own_stars::finding::find_own` meets its contract.
use Prim.Native.Nat.{◌≤◌}
use native.Mathlib.Nat.{mul-le-mul}
use native.Mathlib.Omega.{arith}
use Rattle.own_stars.proofs.Placing.{finding-none, finding-own, finding-guest, finding-all}
use Rattle.own_stars.proofs.finding.find_own.Goals as goal
use Rattle.own_stars.proofs.finding.find_own.Goals.{then-homes-first, else-homes-first}

pub overflow_mul-first : goal.overflow_mul-first
overflow_mul-first c =
    let low : c.args.page ≤ 1024 = omega arith in
    omega (arith, mul-le-mul low c.requires.places_bound.0)

pub loop-i-init : goal.loop-i-init
loop-i-init c = finding-none _ _ _ _ _ _ _ c.requires.places_bound.0 c.requires.places_in_bounds c.load-own.ensures

pub loop-i-preserved : goal.loop-i-preserved
loop-i-preserved c = elim c.if-homes-first.branch [
  | then-homes-first w ↦ rw w.own-is (finding-guest _ _ _ _ _ _ _ _ c.requires.places_bound.0 c.loop-i.invariant c.loop-i-test.true w.if-homes-first.true)
  | else-homes-first w ↦ rw w.own-is (finding-own _ _ _ _ _ _ _ _ c.requires.places_bound.0 c.loop-i.invariant c.loop-i-test.true w.if-homes-first.false)
]

pub returns : goal.returns
returns c = finding-all _ _ _ _ _ _ _ _ (omega arith) c.loop-i.invariant
