-- What the sources before i name is written. Assumes nothing.
use native.Mathlib.Omega.{arith}
use Rattle.buffers.proofs.Copies.{none}
use Rattle.carrying.proofs.Carried.{named-next, named-all}
use Rattle.carrying.proofs.second.fill_second.Goals as goal

pub loop-i-init : goal.loop-i-init
loop-i-init c = record { numbers = none _ _ _; words = none _ _ _; owners = none _ _ _ }

pub loop-i-preserved : goal.loop-i-preserved
loop-i-preserved c =
    let pool = c.args.pool.now in
    let h = c.loop-i-test.true in record {
      numbers = named-next _ pool _ _ _ c.requires.secondnumbers_len c.loop-i.invariant.numbers _ h c.number_named.ensures;
      words = named-next _ pool _ _ _ c.requires.secondwords_len c.loop-i.invariant.words _ h c.word_named.ensures;
      owners = named-next _ pool _ _ _ c.requires.secondowners_len c.loop-i.invariant.owners _ h c.owner_named.ensures;
    }

pub returns : goal.returns
returns c =
    let pool = c.args.pool.now in record {
      secondnumbers_after = named-all c.args.oldnumbers.now pool _ _ _ c.requires.secondnumbers_len c.loop-i.invariant.numbers (omega arith) (omega arith);
      secondwords_after = named-all c.args.oldwords.now pool _ _ _ c.requires.secondwords_len c.loop-i.invariant.words (omega arith) (omega arith);
      secondowners_after = named-all c.args.oldowners.now pool _ _ _ c.requires.secondowners_len c.loop-i.invariant.owners (omega arith) (omega arith);
    }
