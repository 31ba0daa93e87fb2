use mathlib.Core.Path.{◌≡◌, sym, ◌∙◌}
use mathlib.Core.Bool.{false≢true, and-false}
use native.Mathlib.Omega.{arith}
use borrow.Author.Tests.{not-false, le-leb}
use Rattle.hashing.proofs.Bounds.{limits, failed}
use Rattle.soundness.specs.Survey.{sound_in}
use Rattle.soundness.proofs.Items.{surveyed-none, surveyed-more, admitting-refused, admitting-all, led-next}
use Rattle.soundness.proofs.testing.items_sound.Goals as goal

pub loop-i-init : goal.loop-i-init
loop-i-init c =
    let l = limits c.args.geometry.parameters c.requires.signers.valid in
    let whole = c.requires.testable in (
      l.places_most,
      surveyed-none _ _ _ _ _ _ _ _ _ (omega (arith, l.places_most, whole.numbers)) (omega (arith, l.places_most, whole.words)) (omega (arith, l.places_most, whole.owners)) whole.homes,
      λ j h. omega arith,
    )

pub returns-then-not-item : goal.returns-then-not-item
unfolding sound_in
returns-then-not-item c =
    let done = c.loop-i.invariant.1 in
    let refused = admitting-refused _ _ _ _ done.admitting c.loop-i-test.true (failed _ _ c.admitted-item.ensures.sound c.if-not-item.true) in
    record { sound = simp (refused, and-false); long = done.long; homed = λ e. absurd (false≢true e) }

pub loop-i-preserved : goal.loop-i-preserved
loop-i-preserved c =
    let item = c.admitted-item.ensures in
    let taken = not-false _ c.if-not-item.false in (
      c.loop-i.invariant.0,
      surveyed-more _ _ _ _ c.loop-i.invariant.1 c.loop-i-test.true (omega arith) (sym item.sound ∙ taken) (item.home taken) (item.last taken),
      led-next _ _ _ _ c.args.numbers.now _ _ _ _ _ c.loop-i.invariant.2 (sym item.sound ∙ taken) (item.last taken),
    )

pub returns : goal.returns
unfolding sound_in
returns c =
    let done = c.loop-i.invariant.1 in
    let all : c.loop-i.i ≡ c.args.geometry.parameters.places = omega arith in
    record {
      sound = rw (le-leb _ _ c.requires.testable.topped) (sym (admitting-all _ _ _ _ done.admitting all));
      long = done.long;
      homed = λ t. rw all at done.homed;
    }
