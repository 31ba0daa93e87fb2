use Rattle.std.proofs.Common.{take, drop, refl, ap, ◌∙◌, arith}
use Rattle.std.proofs.Math.Seq.{take_all}
use Rattle.fits_table.proofs.Fields.{step_small, read_next}
use Rattle.fits_table.specs.Header.{read_digits, candidate}
use Rattle.fits_table.proofs.cards.candidate_rows.Goals as goal

pub loop-byte-init : goal.loop-byte-init
unfolding read_digits
loop-byte-init c = (omega arith, refl)

pub loop-byte-preserved : goal.loop-byte-preserved
loop-byte-preserved c =
    let t = c.loop-byte in
    rw c.digit_step-value.ensures (
      step_small _ _ t.invariant.0,
      read_next (take 20 (drop 3210 c.args.given.now)) t.value t.byte-index _ c.loop-byte-test.true t.invariant.1 refl,
    )

pub returns : goal.returns
unfolding candidate
returns c = c.loop-byte.invariant.1 ∙ ap (read_digits 0) (take_all _ _ c.loop-byte-test.false)
