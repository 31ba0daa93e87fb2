-- `pages::page::search` meets its contract. The invariant: the search has passed i places.
-- Assumes nothing.
use Rattle.std.proofs.Common.{arith, refl}
use Rattle.std.proofs.Math.Seq.{length-take-le}
use borrow.Author.Tests.{eq-eqb, ne_eqb, le-leb, lt-leb}
use Rattle.pages.proofs.Places.{searched_none, searched-more, searched-found, searched-all}
use Rattle.pages.proofs.page.search.Goals as goal
use Rattle.pages.proofs.page.search.Goals.{then-there-eq0-via-then-there-eq0, then-there-eq0-via-else-there-eq0+then-number-there}

pub returns-then-there-eq0 : goal.returns-then-there-eq0
returns-then-there-eq0 c =
    searched-found c.loop-i.invariant c.loop-i-test.true
    (elim c.then-there-eq0.branch [
      | then-there-eq0-via-then-there-eq0 w ↦ rw (eq-eqb _ _ w.if-there-eq0.true) refl
      | then-there-eq0-via-else-there-eq0+then-number-there w ↦ rw (ne_eqb _ _ w.if-there-eq0.false, le-leb _ _ w.if-number-there.true) refl
    ])

pub loop-i-init : goal.loop-i-init
loop-i-init c = searched_none _ _

pub loop-i-preserved : goal.loop-i-preserved
loop-i-preserved c = searched-more c.loop-i.invariant c.loop-i-test.true (rw (ne_eqb _ _ c.if-there-eq0.false, lt-leb _ _ c.if-number-there.false) refl)

pub returns : goal.returns
returns c =
    let size = length-take-le c.args.places c.args.numbers.now (omega arith) in
    searched-all c.loop-i.invariant size (omega (arith, size))
