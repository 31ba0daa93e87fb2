-- `fits::putting::write_sound` meets its contract.
use Prim.Native.Nat.{◌≤◌}
use native.Mathlib.Omega.{arith}
use mathlib.Core.Path.{sym}
use borrow.Author.Rules.{rules}
use Rattle.fits_table.proofs.Passes.{held-few}
use Rattle.fits.proofs.Output.{too_short, put_whole}
use Rattle.fits.proofs.putting.write_sound.Lts as lts
use Rattle.fits.proofs.putting.write_sound.Tie as tie
use Rattle.fits.proofs.putting.write_sound.Reads as reads
use Rattle.fits.proofs.putting.write_sound.Goals as goal
use Rattle.fits.proofs.putting.write_sound.Goals.{Start}

abbrev After-count_held-rows : Type 0
After-count_held-rows = lts.After-count_held tie.the-claims reads.Pre reads.Post tie.handed_clauses

abbrev start : After-count_held-rows → Start
start c = c.before.before.before.before

-- no more rows than places
few : (c : After-count_held-rows) → c.count_held-rows.result ≤ 32768
few c = omega (arith, c.count_held-rows.ensures, held-few 0 (start c).args.numbers.now, (start c).requires.numbers_len_bound)

pub overflow_mul-length : goal.overflow_mul-length
overflow_mul-length c = omega (arith, few c.before)

pub overflow_add-length : goal.overflow_add-length
overflow_add-length c = omega (arith, few c.before)

pub overflow_mul-length-2 : goal.overflow_mul-length-2
overflow_mul-length-2 c = omega (arith, few c.before)

pub overflow_add-length-2 : goal.overflow_add-length-2
overflow_add-length-2 c = omega (arith, few c.before)

pub returns-then-out-length : goal.returns-then-out-length
returns-then-out-length c =
    let d = c.before.before in
    let a = (start d).args in
    too_short a.numbers.now a.words.now a.out.now d.count_held-rows.result d.count_held-rows.ensures (omega (arith, c.if-out-length.true))

pub overflow_cast-rows : goal.overflow_cast-rows
overflow_cast-rows c = omega (arith, few c.before.before.before)

pub put_table-requires : goal.put_table-requires
put_table-requires c =
    let d = c.before.before.before in
    let pre = (start d).requires in
    record {
      words_len = pre.words_len;
      numbers_len_bound = pre.numbers_len_bound;
      numbers_len = sym d.count_held-rows.ensures;
      rows_up = pre.rows_up;
      n_in_bounds = omega (arith, c.if-out-length.false);
    }

pub overflow_cast-result : goal.overflow_cast-result
overflow_cast-result c = omega (arith, few c.before.before.before.before.before.before)

pub returns : goal.returns
returns c =
    let d = c.before.before.before.before.before.before in
    let a = (start d).args in
    put_whole a.numbers.now a.words.now a.out.now d.count_held-rows.result d.count_held-rows.ensures _
    (omega (arith, c.if-out-length.false)) c.put_table.ensures
