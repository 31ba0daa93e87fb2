-- `backup::mark_changed` meets its contract.
use mathlib.Core.Path.{◌≡◌, sym, ap, ◌∙◌}
use lib.ListN.{length}
use borrow.Author.Rules.{rules}
use Rattle.backup.specs.Marks.{told, mark_refusal}
use Rattle.backup.proofs.Refusing.{markable, refused-marks, accepted-marks}
use Rattle.backup.proofs.mark_changed.Lts as lts
use Rattle.backup.proofs.mark_changed.Tie as tie
use Rattle.backup.proofs.mark_changed.Reads as reads
use Rattle.backup.proofs.mark_changed.Goals as goal

abbrev Else-refusal-ne0 : Type 0
Else-refusal-ne0 = lts.Else1 tie.the-claims reads.Pre reads.Post tie.handed_clauses

pub returns-then-refusal-ne0 : goal.returns-then-refusal-ne0
returns-then-refusal-ne0 c = record {
  answer =
      refused-marks c.args.parameters c.args.growth c.args.old.now c.args.new.now c.args.marks.now
      c.refusal_of-refusal.result
      c.refusal_of-refusal.ensures
      c.if-refusal-ne0.true;
}

none-met : (c : Else-refusal-ne0) →
    mark_refusal c.args.parameters c.args.growth
    (length c.args.old.now)
    (length c.args.new.now)
    (length c.args.marks.now)
    ≡ 0
none-met c = sym c.refusal_of-refusal.ensures ∙ c.if-refusal-ne0.false

pub mark_pages-requires : goal.mark_pages-requires
mark_pages-requires c =
    let m = markable _ _ _ _ _ (none-met c.before.before) in
    record {
      parameters_value = m.parameters;
      growth_value = m.growth;
      growth_bound = m.more;
      len = (m.of_old, m.of_new);
      marks_len = m.of_marks;
    }

pub returns : goal.returns
returns c = record {
  answer =
      ap (told 0) c.mark_pages.ensures
      ∙ accepted-marks c.args.parameters c.args.growth c.args.old.now c.args.new.now c.args.marks.now
      (sym c.refusal_of-refusal.ensures ∙ c.if-refusal-ne0.false);
}
