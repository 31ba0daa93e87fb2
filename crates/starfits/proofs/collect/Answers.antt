-- `starfits::collect` meets its contract.
use native.Mathlib.Omega.{arith}
use Prim.Native.Nat.{◌≤◌}
use lib.ListN.{length}
use Rattle.lines.proofs.Streams.{put_is}
use Rattle.starfits.proofs.collect.Goals as goal

pub returns-clause-written : goal.returns-clause-written
returns-clause-written g c =
    let room : c.collect-collected.result.at ≤ length c.args.out.now =
    omega (arith, c.collect-collected.ensures.stands.1, c.requires.block_len_bound) in
    put_is _ _ _ _ _ _ c.collect-collected.ensures.stands.0.text room c.in_ok-write_all.ensures.bytes
