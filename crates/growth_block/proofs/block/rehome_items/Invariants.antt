use Prim.Native.Nat.{◌-◌}
use lib.ListN.{drop}
use Rattle.hashing.specs.Geometry.{grown}
use Rattle.buffers.proofs.Copies.{Copied}
use Rattle.growth_block.specs.Block.{homes_taken}
use Rattle.growth_block.proofs.block.rehome_items.Given as goal

abbrev pub invariant-loop-i : goal.invariant-loop-i
invariant-loop-i l =
    Copied l.initial.homes l.first (drop l.first (homes_taken l.geometry.parameters (grown l.geometry.parameters l.geometry.growth) l.stop l.numbers)) l.homes (l.i - l.first)
