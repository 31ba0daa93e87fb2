-- A page has no more stars than places.
use mathlib.Core.Path.{sym, ap}
use Prim.Native.Nat.{ℕ, ◌+◌}
use native.Mathlib.Omega.{arith}
use lib.Dec.{ltb}
use lib.Seq.{slice, length-slice}
use borrow.Author.Tests.{le-ltb}
use Rattle.page_plan.specs.Gather.{stars_in}
use Rattle.entry_cascade.proofs.Appending.{stars-most}
use Rattle.entry_cascade.proofs.arriving.exceeds.Goals as goal

pub returns-then-places-room : goal.returns-then-places-room
returns-then-places-room c =
    let page = slice c.args.at (c.args.at + c.args.places) c.args.numbers.now in
    sym (le-ltb c.args.room (stars_in 0 page) (omega (arith, c.if-places-room.true, stars-most page, length-slice c.args.at (c.args.at + c.args.places) c.args.numbers.now c.requires)))

pub returns : goal.returns
returns c = ap (λ (n : ℕ). ltb c.args.room n) c.count_stars.ensures
