use Prim.Native.Nat.{◌-◌, ◌*◌}
use native.Mathlib.Omega.{arith}
use Rattle.hashing.proofs.Bounds.{limits}
use Rattle.soundness.proofs.Lent.{page-items, homes-part}
use Rattle.soundness.proofs.stretches.first_unsound.Goals as goal

pub lent_sound-requires-clause-homes_at : goal.lent_sound-requires-clause-homes_at
lent_sound-requires-clause-homes_at c =
    let a = c.args in
    let b = a.geometry.parameters.places in
    homes-part a.geometry a.numbers.now a.homes.now a.at a.to ((a.stop - a.from) * b) ((c.loop-page.page - a.from) * b) b c.requires.homed_items.homes
    (page-items b a.from c.loop-page.page a.stop c.loop-page.invariant.low c.loop-page-test.true)

pub lent_sound-requires-clause-signable_at : goal.lent_sound-requires-clause-signable_at
lent_sound-requires-clause-signable_at c = λ i h star. omega (arith, (limits c.args.geometry.parameters c.requires.signers.valid).pages_most)
