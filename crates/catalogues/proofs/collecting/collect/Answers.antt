-- `catalogues::collecting::collect` meets its contract.
use Rattle.std.proofs.Common.{◌≡◌, add-one, take, arith}
use Rattle.std.proofs.Math.Seq.{take_all}
use Rattle.lines.proofs.Programs.{start-stands, block_more}
use Rattle.catalogues.proofs.collecting.collect.Goals as goal

pub loop-byte-init : goal.loop-byte-init
loop-byte-init c = (omega arith, c.requires.fit, start-stands _ _ _ _)

pub loop-byte-preserved : goal.loop-byte-preserved
loop-byte-preserved c =
    rw (add-one c.loop-byte.byte-index) (
      omega (arith, c.take_byte-step.ensures.stands.1),
      c.take_byte-step.ensures.fit_2,
      block_more _ _ _ _ _ _ _ _ _ _ _ c.loop-byte-test.true c.loop-byte.invariant.2 c.take_byte-step.ensures.stands.0,
    )

pub returns : goal.returns
returns c =
    let block = c.args.block.now in
    let all : take c.loop-byte.byte-index block ≡ block = take_all _ _ c.loop-byte-test.false in
    record {
      fit_2 = c.loop-byte.invariant.1;
      stands = (rw all at c.loop-byte.invariant.2, omega arith);
    }
