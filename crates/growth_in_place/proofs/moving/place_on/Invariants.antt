use Prim.Native.Nat.{◌*◌}
use lib.ListN.{drop}
use Rattle.pages.proofs.Places.{Passed}
use Rattle.growth_in_place.proofs.moving.place_on.Given as goal

abbrev pub invariant-loop-i : goal.invariant-loop-i
invariant-loop-i l = Passed l.places l.number (drop (l.page * l.places) l.numbers) l.i
