use mathlib.Core.Path.{ap}
use Prim.Native.Nat.{◌*◌}
use native.Mathlib.Omega.{arith}
use lib.ListN.{length-drop}
use lib.Seq.{get_or-drop}
use borrow.Author.Tests.{eq-eqb, ne_eqb, le-leb, lt-leb}
use Rattle.pages.specs.Page.{part}
use Rattle.pages.specs.declared.page.Place.{Place}
use Rattle.pages.proofs.Places.{passed_none, passed-more, passed-found, passed-all}
use Rattle.growth_in_place.proofs.moving.place_on.Goals as goal
use Rattle.growth_in_place.proofs.moving.place_on.Goals.{then-there-eq0-via-then-there-eq0, then-there-eq0-via-else-there-eq0+then-number-there}

pub loop-i-init : goal.loop-i-init
loop-i-init c = passed_none _ _ _ (omega (arith, length-drop (c.args.page * c.args.places) c.args.numbers.now))

pub returns-then-there-eq0 : goal.returns-then-there-eq0
unfolding part
returns-then-there-eq0 c =
    let ns = c.args.numbers.now in
    let i = c.loop-i.i in
    ap (λ (r : Place). r.at)
    (passed-found c.loop-i.invariant (omega arith)
    (rw (get_or-drop (c.args.page * c.args.places) ns i 0)
    (elim c.then-there-eq0.branch [
      | then-there-eq0-via-then-there-eq0 w ↦ rw (eq-eqb _ _ w.if-there-eq0.true)
      | then-there-eq0-via-else-there-eq0+then-number-there w ↦ rw (ne_eqb _ _ w.if-there-eq0.false, le-leb _ _ w.if-number-there.true)
    ])))

pub loop-i-preserved : goal.loop-i-preserved
loop-i-preserved c =
    let ns = c.args.numbers.now in
    let i = c.loop-i.i in
    passed-more c.loop-i.invariant (omega arith)
    (rw (get_or-drop (c.args.page * c.args.places) ns i 0, ne_eqb _ _ c.if-there-eq0.false, lt-leb _ _ c.if-number-there.false))

pub returns : goal.returns
unfolding part
returns c = ap (λ (r : Place). r.at) (passed-all c.loop-i.invariant (omega arith))
