use mathlib.Core.Path.{sym, ◌∙◌, ap}
use mathlib.Core.Bool.{not}
use Prim.Native.Nat.{◌-◌, ◌*◌}
use native.Mathlib.Omega.{arith}
use Rattle.hashing.proofs.Bounds.{limits, passed, failed}
use Rattle.placement.specs.File.{File}
use Rattle.placement.specs.Hash.{lent}
use Rattle.placement.proofs.Prepared.{first-signers}
use Rattle.soundness.proofs.Lent.{passed-next, passed-found, passed_then, lowest_same, page-items, both-items, here-items, rest-items, homes-here, sound-own, sound-there}
use Rattle.soundness.proofs.stretches.first_unsound_near.Goals as goal
use Rattle.soundness.proofs.stretches.first_unsound_near.Goals.{Start, then-not-sound_at_home+else-count_far-ne0+else-not-lent_sound, else-not-sound_at_home}

abbrev file : Start → File
file s = lent s.args.separators.now s.args.numbers.now s.args.words.now s.args.owners.now

pub sound_at_home-requires-clause-homes_at : goal.sound_at_home-requires-clause-homes_at
sound_at_home-requires-clause-homes_at c =
    let a = c.args in
    let b = a.geometry.parameters.places in
    let f = lent a.separators.now a.numbers.now a.words.now a.owners.now in
    let low = c.loop-page.invariant.low in
    homes-here a.geometry f a.homes.now a.to a.from c.loop-page.page a.stop c.requires.ready.sized low c.requires.from_le_stop.1 c.requires.places_in_bounds b c.requires.homes_at
    (page-items b a.from c.loop-page.page a.stop low c.loop-page-test.true)

pub count_far-requires-clause-places_in_bounds : goal.count_far-requires-clause-places_in_bounds
count_far-requires-clause-places_in_bounds c =
    let a = c.args in
    let f = lent a.separators.now a.numbers.now a.words.now a.owners.now in
    let items = here-items a.geometry f a.homes.now a.to a.from c.loop-page.page a.stop c.requires.ready.sized c.loop-page.invariant.low c.requires.from_le_stop.1 c.requires.places_in_bounds c.loop-page-test.true in
    (items.numbers, (items.homes, (limits _ c.requires.ready.homing.valid).places_most))

pub count_far-requires-clause-page_bound : goal.count_far-requires-clause-page_bound
count_far-requires-clause-page_bound c = omega (arith, (limits c.args.geometry.parameters c.requires.ready.homing.valid).pages_most)

pub first_unsound_beyond-requires-clause-homed_items : goal.first_unsound_beyond-requires-clause-homed_items
first_unsound_beyond-requires-clause-homed_items c =
    let a = c.args in
    let b = a.geometry.parameters.places in
    let f = lent a.separators.now a.numbers.now a.words.now a.owners.now in
    let done = c.loop-page.invariant in
    let p = c.requires in record {
      separated = p.ready.sized.of_separators;
      order = done.high;
      inside = p.from_le_stop.1;
      items = rest-items a.geometry f a.homes.now a.to a.from c.loop-page.page a.stop p.ready.sized done.low p.from_le_stop.1 p.places_in_bounds done.high;
      homes =
          homes-here a.geometry f a.homes.now a.to a.from c.loop-page.page a.stop p.ready.sized done.low p.from_le_stop.1 p.places_in_bounds ((a.stop - c.loop-page.page) * b) p.homes_at
          (omega (arith, both-items b a.from c.loop-page.page a.stop done.low done.high));
    }

pub returns-then-count_far-ne0 : goal.returns-then-count_far-ne0
returns-then-count_far-ne0 c =
    let a = c.args in
    let f = lent a.separators.now a.numbers.now a.words.now a.owners.now in
    passed_then c.loop-page.invariant (lowest_same (sound-there a.geometry f c.loop-page.page) c.first_unsound_beyond.ensures)

pub lent_sound-requires-clause-signers : goal.lent_sound-requires-clause-signers
lent_sound-requires-clause-signers c = first-signers c.requires.ready.homing.table c.requires.ready.homing.valid

pub lent_sound-requires-clause-homes_at : goal.lent_sound-requires-clause-homes_at
lent_sound-requires-clause-homes_at c =
    let a = c.args in
    let b = a.geometry.parameters.places in
    let f = lent a.separators.now a.numbers.now a.words.now a.owners.now in
    let low = c.loop-page.invariant.low in
    homes-here a.geometry f a.homes.now a.to a.from c.loop-page.page a.stop c.requires.ready.sized low c.requires.from_le_stop.1 c.requires.places_in_bounds b c.requires.homes_at
    (page-items b a.from c.loop-page.page a.stop low c.loop-page-test.true)

pub returns-then-not-lent_sound : goal.returns-then-not-lent_sound
returns-then-not-lent_sound c =
    let a = c.args in
    let f = lent a.separators.now a.numbers.now a.words.now a.owners.now in
    passed-found c.loop-page.invariant c.loop-page-test.true (sym (sound-own a.geometry f c.loop-page.page) ∙ failed _ _ c.lent_sound.ensures (ap not c.if-not-lent_sound.true))

pub loop-page-preserved : goal.loop-page-preserved
loop-page-preserved c =
    let a = c.args in
    let f = lent a.separators.now a.numbers.now a.words.now a.owners.now in
    passed-next c.loop-page.invariant c.loop-page-test.true
    (sym (sound-own a.geometry f c.loop-page.page)
    ∙ elim c.if-not-sound_at_home.branch [
      | then-not-sound_at_home+else-count_far-ne0+else-not-lent_sound w ↦ passed _ _ w.lent_sound.ensures (ap not w.if-not-lent_sound.false)
      | else-not-sound_at_home w ↦ c.sound_at_home.ensures w.if-not-sound_at_home.false
    ])
