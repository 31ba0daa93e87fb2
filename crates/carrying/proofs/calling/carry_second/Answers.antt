-- 16, or what the pages tell.
use mathlib.Core.Path.{refl}
use Rattle.placement.specs.Hash.{lent}
use Rattle.calls.specs.Answers.{placed, refused_by}
use Rattle.carrying.proofs.Carried.{carry_small, carry_told}
use Rattle.carrying.proofs.calling.carry_second.Goals as goal

pub returns-then-newgrowth : goal.returns-then-newgrowth
unfolding placed refused_by
returns-then-newgrowth c = λ pool. rw c.if-newgrowth.true (record { answers = refl; seconds = refl })

pub placed_from-requires : goal.placed_from-requires
placed_from-requires c =
    rw c.carry_pages-outcome.ensures.value (carry_small _ _ (lent c.args.separators.now c.args.numbers.now c.args.words.now c.args.owners.now) c.requires.admitted.homing.valid)

pub returns : goal.returns
returns c =
    λ pool.
    carry_told c.args.parameters c.args.growth (lent c.args.separators.now c.args.numbers.now c.args.words.now c.args.owners.now) c.args.newparameters c.args.newgrowth (lent c.args.secondseparators.now c.args.secondnumbers.now c.args.secondwords.now c.args.secondowners.now) pool _ _ _ c.if-newgrowth.false
    c.carry_pages-outcome.ensures.value c.placed_from.ensures c.carry_pages-outcome.ensures.secondowners_value
