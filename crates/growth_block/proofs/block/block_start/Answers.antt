use mathlib.Core.Path.{◌≡◌}
use Prim.Native.Nat.{◌+◌, ◌-◌}
use native.Mathlib.Omega.{arith}
use Rattle.growth_block.proofs.Starting.{seeking_next, seeking_found, seeking_none}
use Rattle.growth_block.proofs.block.block_start.Goals as goal

pub loop-below-init : goal.loop-below-init
loop-below-init c = (omega arith, λ q a h e. omega arith)

pub returns-then-separators-below : goal.returns-then-separators-below
returns-then-separators-below c =
    let same : c.loop-below.below - 1 + 1 ≡ c.loop-below.below = omega arith in
    rw same (seeking_found _ _ _ _ c.loop-below.invariant (omega arith) c.if-separators-below.true)

pub loop-below-preserved : goal.loop-below-preserved
loop-below-preserved c = seeking_next c.args.separators.now _ _ _ c.loop-below.invariant (omega arith) c.if-separators-below.false

pub returns : goal.returns
returns c =
    let none : c.loop-below.below ≡ 0 = omega arith in
    rw none at (seeking_none _ _ _ _ c.loop-below.invariant (omega arith))
