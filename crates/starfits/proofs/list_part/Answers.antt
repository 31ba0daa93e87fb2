-- `starfits::list_part` meets its contract.
use native.Mathlib.Omega.{arith}
use Prim.Native.Nat.{◌≤◌}
use lib.ListN.{length}
use Rattle.lines.proofs.Streams.{put_is}
use Rattle.starfits.proofs.list_part.Goals as goal

pub returns : goal.returns
returns g c =
    let room : c.list-at.result ≤ length c.table_space-out.result = omega (arith, c.list-at.ensures.1, c.table_space-out.ensures) in
    put_is _ _ _ _ _ _ c.list-at.ensures.0 room c.in_ok-write_all.ensures.bytes
