use mathlib.Core.Path.{◌≡◌, sym, ◌∙◌}
use native.Mathlib.Omega.{arith}
use borrow.Author.Tests.{not-false, le-leb, lt-leb}
use Rattle.hashing.proofs.Bounds.{failed}
use Rattle.soundness.specs.Survey.{sound_in}
use Rattle.soundness.specs.Stretch.{sound_from}
use Rattle.soundness.proofs.Items.{admitting-all}
use Rattle.soundness.proofs.Lent.{lent-refused, lent-more, page-refused}
use Rattle.soundness.proofs.stretches.lent_sound.Goals as goal

pub returns-then-top_of-separators : goal.returns-then-top_of-separators
unfolding sound_from sound_in
returns-then-top_of-separators c = rw (lt-leb _ _ (rw c.top_of.ensures at c.if-top_of-separators.true))

pub returns-then-not-item : goal.returns-then-not-item
returns-then-not-item c =
    let a = c.args in
    page-refused a.geometry a.separators.now a.numbers.now a.words.now a.owners.now a.at a.page
    (lent-refused _ _ _ _ a.numbers.now a.words.now a.owners.now a.at c.loop-i.invariant c.loop-i-test.true (failed _ _ c.admitted-item.ensures.sound c.if-not-item.true))

pub loop-i-preserved : goal.loop-i-preserved
loop-i-preserved c =
    let a = c.args in
    let item = c.admitted-item.ensures in
    let taken = not-false _ c.if-not-item.false in
    lent-more _ _ _ _ a.numbers.now a.words.now a.owners.now a.at c.loop-i.invariant c.loop-i-test.true (sym item.sound ∙ taken) (item.last taken)

pub returns : goal.returns
unfolding sound_from sound_in
returns c =
    let all : c.loop-i.i ≡ c.args.geometry.parameters.places = omega arith in
    rw (le-leb _ _ (rw c.top_of.ensures at c.if-top_of-separators.false)) (sym (admitting-all _ _ _ _ c.loop-i.invariant all))
