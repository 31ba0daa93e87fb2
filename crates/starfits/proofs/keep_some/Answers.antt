-- `starfits::keep_some` meets its contract.
use native.Mathlib.Omega.{arith}
use Prim.Native.Nat.{◌<◌}
use lib.ListN.{length}
use Rattle.starfits.proofs.Keeping.{kept_all, ended}
use Rattle.starfits.proofs.keep_some.Goals as goal

pub returns-clause-end : goal.returns-clause-end
returns-clause-end g c = λ same.
    let some : 0 < length c.read.new.buf = omega arith in
    kept_all _ _ _ _ _ _ _ c.requires.0 c.requires.1 c.in_ok-n.ensures.bytes.0
    (ended _ _ _ c.in_ok-n.ensures.bound.0 some c.in_ok-n.ensures.bytes.1) c.keep.ensures.1 same
