-- `tray::filing::limit` meets its contract.
use native.Mathlib.Omega.{arith}
use borrow.Author.Tests.{eq-eqb, ne_eqb, le-leb, lt-leb}
use Rattle.tray.specs.Shape.{limit_of}
use Rattle.tray.proofs.filing.limit.Goals as goal

pub returns-then-places-ne256 : goal.returns-then-places-ne256
unfolding limit_of
returns-then-places-ne256 c = (rw (ne_eqb _ 256 c.if-places-ne256.true), (omega arith, omega arith))

pub returns-then-count-gt256 : goal.returns-then-count-gt256
unfolding limit_of
returns-then-count-gt256 c = (rw (eq-eqb _ 256 c.if-places-ne256.false, lt-leb _ 256 c.if-count-gt256.true), (omega arith, omega arith))

pub returns : goal.returns
unfolding limit_of
returns c = (rw (eq-eqb _ 256 c.if-places-ne256.false, le-leb _ 256 c.if-count-gt256.false), (omega (arith, c.if-places-ne256.false, c.if-count-gt256.false), omega (arith, c.if-count-gt256.false)))
