-- `fits::putting::write_table` meets its contract.
use Prim.Native.Nat.{◌≤◌}
use native.Mathlib.Omega.{arith}
use borrow.Author.Rules.{rules}
use Rattle.placement.specs.Hash.{lent}
use Rattle.calls.specs.Calls.{file_fits_lem}
use Rattle.calls.proofs.Refusals.{items-most}
use Rattle.call_guard.proofs.Admitting.{prepared, tabled}
use Rattle.fits.proofs.Output.{refused-first, well-admitted, unsound-first, rows-rise, sound-written}
use Rattle.fits.proofs.putting.write_table.Goals as goal

pub returns-in-Err : goal.returns-in-Err
unfolding file_fits_lem
returns-in-Err c = record { leaves = refused-first c.args.parameters c.args.growth (lent c.args.separators.now c.args.numbers.now c.args.words.now c.args.owners.now) c.args.out.now c.admit.ensures c.file_fits-fits.ensures c.in-Err.is }

pub first_multipliers-table-requires : goal.first_multipliers-table-requires
unfolding file_fits_lem
first_multipliers-table-requires c = tabled (well-admitted c.args.parameters c.args.growth (lent c.args.separators.now c.args.numbers.now c.args.words.now c.args.owners.now) c.args.out.now c.admit.ensures c.file_fits-fits.ensures c.in_default.is)

pub lowest_unsound-bad-requires : goal.lowest_unsound-bad-requires
unfolding file_fits_lem
lowest_unsound-bad-requires c = prepared c.first_multipliers-table.ensures (well-admitted c.args.parameters c.args.growth (lent c.args.separators.now c.args.numbers.now c.args.words.now c.args.owners.now) c.args.out.now c.admit.ensures c.file_fits-fits.ensures c.in_default.is)

pub returns-then-bad-parameters : goal.returns-then-bad-parameters
unfolding file_fits_lem
returns-then-bad-parameters c = record {
  leaves =
      unsound-first c.args.parameters c.args.growth (lent c.args.separators.now c.args.numbers.now c.args.words.now c.args.owners.now) c.args.out.now c.admit.ensures c.file_fits-fits.ensures c.in_default.is
      _ c.lowest_unsound-bad.ensures (omega (arith, c.if-bad-parameters.true));
}

pub write_sound-requires : goal.write_sound-requires
unfolding file_fits_lem
write_sound-requires c =
    let l = well-admitted c.args.parameters c.args.growth (lent c.args.separators.now c.args.numbers.now c.args.words.now c.args.owners.now) c.args.out.now c.admit.ensures c.file_fits-fits.ensures c.in_default.is in record {
      words_len = omega (arith, l.sized.of_numbers, l.sized.of_words_lem);
      numbers_len_bound = omega (arith, l.sized.of_numbers, items-most c.args.parameters l.homing.valid);
      rows_up = rows-rise c.args.parameters c.args.growth (lent c.args.separators.now c.args.numbers.now c.args.words.now c.args.owners.now) c.args.out.now c.admit.ensures c.file_fits-fits.ensures c.in_default.is _ c.lowest_unsound-bad.ensures (omega (arith, c.if-bad-parameters.false));
    }

pub returns : goal.returns
unfolding file_fits_lem
returns c = record {
  leaves =
      sound-written c.args.parameters c.args.growth (lent c.args.separators.now c.args.numbers.now c.args.words.now c.args.owners.now) c.args.out.now c.admit.ensures c.file_fits-fits.ensures c.in_default.is
      _ c.lowest_unsound-bad.ensures (omega (arith, c.if-bad-parameters.false)) c.write_sound.ensures;
}
