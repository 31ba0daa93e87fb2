-- `catalogues::collecting::put_rows` meets its contract.
use native.Mathlib.Omega.{arith}
use Prim.Native.Nat.{◌≤◌}
use mathlib.Core.Path.{sym, ◌∙◌}
use lib.ListN.{length}
use lib.Seq.{length-take-le}
use Rattle.catalogues.proofs.Rising.{held-count, held_up, table_put}
use borrow.Author.Rules.{rules}
use Rattle.catalogues.proofs.collecting.put_rows.Goals as goal

pub slice_bounds-put_table-end : goal.slice_bounds-put_table-end
slice_bounds-put_table-end c = let s = c.before.before.before.before in sym (length-take-le s.args.count s.args.numbers.now (omega (arith, s.requires.count_bound)))

pub slice_bounds-put_table-end-2 : goal.slice_bounds-put_table-end-2
slice_bounds-put_table-end-2 c = let s = c.before.before.before.before in sym (length-take-le s.args.count s.args.words.now (omega (arith, s.requires.count_bound)))

pub put_table-requires : goal.put_table-requires
put_table-requires c =
    let k = c.args.count in
    let ns = c.args.numbers.now in
    let ws = c.args.words.now in
    let p : k ≤ length ns = omega (arith, c.requires.count_bound) in
    let q : k ≤ length ws = omega (arith, c.requires.count_bound) in record {
      words_len = length-take-le k ws q ∙ sym (length-take-le k ns p);
      numbers_len_bound = omega (arith, length-take-le k ns p, c.requires.count_bound.0);
      numbers_len = held-count k ns ws p q c.requires.proper;
      rows_up = held_up k ns ws p q c.requires.proper;
      n_in_bounds = omega (arith, c.requires.count_bound.0, c.requires.in_bounds);
    }

pub returns : goal.returns
returns c =
    let k = c.args.count in
    let ns = c.args.numbers.now in
    let ws = c.args.words.now in
    let p : k ≤ length ns = omega (arith, c.requires.count_bound) in
    let q : k ≤ length ws = omega (arith, c.requires.count_bound) in (
      table_put k ns ws p q c.requires.proper c.args.out.now _ (omega (arith, c.requires.count_bound.0, c.requires.in_bounds)) c.put_table.ensures,
      omega (arith, c.requires.count_bound.0),
    )
