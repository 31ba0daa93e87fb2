use Rattle.std.proofs.Common.{◌≡◌, ◌+◌, ◌≤◌, ◌∙◌, set, length, length-set, arith}
use Rattle.fits_table.proofs.Fields.{filled_none, filled_next, filled-all}
use borrow.Author.Tests.{eq-eqb, ne_eqb}
use Rattle.fits_table.proofs.cards.put_field.Goals as goal
use Rattle.fits_table.proofs.cards.put_field.Goals.{then-rest-eq0, else-rest-eq0}

pub loop-i-init : goal.loop-i-init
loop-i-init c = filled_none _ _ _

pub loop-i-preserved : goal.loop-i-preserved
loop-i-preserved c =
    let t = c.loop-i in
    let a = c.args in
    let o = set a.out.now (a.at + 19) c.digit.result in
    let room : a.at + t.i ≤ length o = omega (arith, c.requires, length-set a.out.now (a.at + 19) c.digit.result) in
    elim c.if-rest-eq0.branch [
      | then-rest-eq0 w ↦ rw w.out-is (filled_next o t.out a.at _ t.rest t.i 32 c.loop-i-test.true room (rw (eq-eqb _ _ w.if-rest-eq0.true)) t.invariant)
      | else-rest-eq0 w ↦ rw w.out-is (filled_next o t.out a.at _ t.rest t.i _ c.loop-i-test.true room (w.digit-else-rest-eq0.ensures ∙ rw (ne_eqb _ _ w.if-rest-eq0.false)) t.invariant)
    ]

pub returns : goal.returns
returns c =
    let t = c.loop-i in
    let e : t.i ≡ 0 = omega arith in
    filled-all c.args.out.now t.out c.args.at c.args.value t.rest c.requires (rw (← e, ← c.digit.ensures) t.invariant)
