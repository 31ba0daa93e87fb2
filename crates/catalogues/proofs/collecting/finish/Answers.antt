-- `catalogues::collecting::finish` meets its contract.
use native.Mathlib.Omega.{arith}
use mathlib.Core.Path.{◌≡◌, ap, ◌∙◌}
use lib.ListN.{length}
use lib.Seq.{length-sets}
use Rattle.catalogues.proofs.Ending.{last-refused, last-table}
use borrow.Author.Rules.{rules}
use Rattle.catalogues.proofs.collecting.finish.Goals as goal

pub returns-then-all : goal.returns-then-all
returns-then-all c =
    (last-refused _ _ _ _ _ _ _ _ _ c.close-last.ensures.stands.0 c.if-all.true, omega (arith, c.close-last.ensures.stands.1))

pub put_rows-requires : goal.put_rows-requires
put_rows-requires c =
    let f = c.close-last.ensures.fit_2 in
    let kept : length c.close-last.new.out ≡ length c.args.out.now = ap length c.close-last.ensures.stands.0.text.buffer ∙ simp length-sets in
    record {
      count_bound = (f.few, (f.numbers, f.words));
      proper = f.proper;
      in_bounds = omega (arith, kept, c.requires.in_bounds);
    }

pub returns : goal.returns
returns c =
    (last-table _ _ _ _ _ _ _ _ _ c.close-last.ensures.stands.0 _ _ c.if-all.false c.put_rows.ensures.0, c.put_rows.ensures.1)
