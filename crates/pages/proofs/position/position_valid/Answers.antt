-- `pages::position::position_valid` meets its contract: the declination is read back from its bits, and then there is one line
-- for each way the tests go.
-- Assumes nothing.
use borrow.Author.Rules.{rules}
use borrow.Author.Tests.{le-leb, lt-leb}
use mathlib.Core.Path.{◌≡◌}
use mir.Syntax.{w32}
use mir.Val.{to_z, of_z}
use mir.Facts.{to_z-of_z}
use Rattle.pages.specs.Position.{valid_position}
use Rattle.pages.proofs.position.position_valid.Lts as lts
use Rattle.pages.proofs.position.position_valid.Tie as tie
use Rattle.pages.proofs.position.position_valid.Reads as reads
use Rattle.pages.proofs.position.position_valid.Goals as goal
use Rattle.pages.proofs.position.position_valid.Goals.{Start}

abbrev After-struct_told-1 : Type 0
After-struct_told-1 = lts.After-struct_told reads.Pre reads.Post

abbrev start : After-struct_told-1 → Start
start c = c.before.before.before.before

back : (c : After-struct_told-1) → to_z w32 (of_z w32 (start c).args.position.dec) ≡ (start c).args.position.dec
back c = to_z-of_z {w = w32} (record { sfits = c.struct_told-1.given.1.0.1 })

pub returns-then-position-gt-LAST_RA : goal.returns-then-position-gt-LAST_RA
unfolding valid_position
returns-then-position-gt-LAST_RA c = rw (lt-leb _ _ c.if-position-gt-LAST_RA.true)

pub returns-then-position : goal.returns-then-position
unfolding valid_position
returns-then-position c =
    let t = c.before.before.before in
    let least = rw (back t) at c.if-position.true in
    rw (back t, le-leb _ _ t.if-position-gt-LAST_RA.false, least)

pub returns-else-position : goal.returns-else-position
unfolding valid_position
returns-else-position c =
    let least = rw (back c.before) at c.if-position.false in
    rw (back c.before, le-leb _ _ c.if-position-gt-LAST_RA.false, least)
