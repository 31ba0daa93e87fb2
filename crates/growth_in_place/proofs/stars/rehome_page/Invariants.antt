use Prim.Native.Nat.{◌*◌}
use lib.ListN.{drop}
use Rattle.hashing.specs.Geometry.{grown}
use Rattle.placement.specs.Shape.{homes_of}
use Rattle.buffers.proofs.Copies.{Copied}
use Rattle.growth_in_place.proofs.stars.rehome_page.Given as goal

abbrev pub invariant-loop-i : goal.invariant-loop-i
invariant-loop-i l =
    Copied l.initial.homes (l.page * l.geometry.parameters.places) (drop (l.page * l.geometry.parameters.places) (homes_of l.geometry.parameters (grown l.geometry.parameters l.geometry.growth) l.numbers)) l.homes l.i
