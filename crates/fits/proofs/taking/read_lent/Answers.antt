-- `fits::taking::read_lent` meets its contract.
use mathlib.Core.Path.{◌≡◌, sym, ◌∙◌, ap}
use mathlib.Core.Bool.{not}
use Rattle.placement.specs.Hash.{lent}
use Rattle.calls.specs.Answers.{pooled, cleared}
use Rattle.hashing.proofs.Bounds.{passed, failed}
use Rattle.call_guard.proofs.Admitting.{prepared, tabled}
use Rattle.fits.proofs.Input.{bad_header, rows_inside, bad_rows, too_many, all_placed, rows-good}
use borrow.Author.Rules.{rules}
use Rattle.fits.proofs.taking.read_lent.Goals as goal

pub returns-in_default : goal.returns-in_default
returns-in_default c = bad_header c.args.parameters c.args.growth (lent c.args.separators.now c.args.numbers.now c.args.words.now c.args.owners.now) (cleared (pooled c.args.poolnumbers.now c.args.poolwords.now c.args.poolowners.now)) c.args.given.now c.table_rows-told.ensures c.in_default.is

pub data_good-requires : goal.data_good-requires
data_good-requires c = rows_inside c.args.parameters c.args.growth (lent c.args.separators.now c.args.numbers.now c.args.words.now c.args.owners.now) (cleared (pooled c.args.poolnumbers.now c.args.poolwords.now c.args.poolowners.now)) c.args.given.now _ c.table_rows-told.ensures c.in-Rows.is

pub returns-then-not-data_good : goal.returns-then-not-data_good
returns-then-not-data_good c =
    bad_rows c.args.parameters c.args.growth (lent c.args.separators.now c.args.numbers.now c.args.words.now c.args.owners.now) (cleared (pooled c.args.poolnumbers.now c.args.poolwords.now c.args.poolowners.now)) c.args.given.now _ c.table_rows-told.ensures c.in-Rows.is
    (failed _ _ c.data_good.ensures (ap not c.if-not-data_good.true))

pub first_multipliers-table-requires : goal.first_multipliers-table-requires
first_multipliers-table-requires c = tabled c.requires.admitted

pub place_rows-requires : goal.place_rows-requires
place_rows-requires c = record {
  ready = prepared c.first_multipliers-table.ensures c.requires.admitted;
  pool_len = (c.requires.pooled.of_numbers, c.requires.pooled.of_words_lem ∙ sym c.requires.pooled.of_numbers);
  rows_bound = rows_inside c.args.parameters c.args.growth (lent c.args.separators.now c.args.numbers.now c.args.words.now c.args.owners.now) (cleared (pooled c.args.poolnumbers.now c.args.poolwords.now c.args.poolowners.now)) c.args.given.now _ c.table_rows-told.ensures c.in-Rows.is;
  rows_value = rows-good _ _ (passed _ _ c.data_good.ensures (ap not c.if-not-data_good.false));
}

pub returns-then-not-place_rows : goal.returns-then-not-place_rows
returns-then-not-place_rows c =
    too_many c.args.parameters c.args.growth (lent c.args.separators.now c.args.numbers.now c.args.words.now c.args.owners.now) (cleared (pooled c.args.poolnumbers.now c.args.poolwords.now c.args.poolowners.now)) c.args.given.now _ c.table_rows-told.ensures c.in-Rows.is (passed _ _ c.data_good.ensures (ap not c.if-not-data_good.false))
    c.place_rows.ensures c.if-not-place_rows.true

pub returns : goal.returns
returns c =
    all_placed c.args.parameters c.args.growth (lent c.args.separators.now c.args.numbers.now c.args.words.now c.args.owners.now) (cleared (pooled c.args.poolnumbers.now c.args.poolwords.now c.args.poolowners.now)) c.args.given.now _ c.table_rows-told.ensures c.in-Rows.is (passed _ _ c.data_good.ensures (ap not c.if-not-data_good.false))
    c.place_rows.ensures c.if-not-place_rows.false
