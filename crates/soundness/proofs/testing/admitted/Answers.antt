-- `soundness::testing::admitted` meets its contract.
-- Assumes nothing.
use mathlib.Core.Path.{sym, ◌∙◌, ap}
use mathlib.Core.Bool.{false≢true, not}
use borrow.Author.Tests.{eq-eqb, ne_eqb}
use Rattle.hashing.proofs.Bounds.{failed, passed}
use Rattle.soundness.proofs.Items.{in_order, empty-item, refused-item, passed-item}
use Rattle.soundness.proofs.testing.admitted.Goals as goal

pub returns-then-number-eq0 : goal.returns-then-number-eq0
returns-then-number-eq0 c =
    let none = c.if-number-eq0.true in
    record {
      sound = c.unused.ensures ∙ sym (empty-item _ _ _ _ _ _ _ _ none);
      home = λ e. rw (eq-eqb _ _ none);
      last = λ e. rw (eq-eqb _ _ none);
    }

pub returns-then-not-ordered : goal.returns-then-not-ordered
returns-then-not-ordered c =
    record {
      sound = sym (refused-item _ _ _ _ _ _ _ _ c.if-number-eq0.false (failed _ _ c.ordered.ensures (ap not c.if-not-ordered.true)));
      home = λ e. absurd (false≢true e);
      last = λ e. absurd (false≢true e);
    }

pub stands_on-requires : goal.stands_on-requires
stands_on-requires c =
    let p = c.requires in
    let placed = in_order _ _ _ (passed _ _ c.ordered.ensures (ap not c.if-not-ordered.false)) in
    record {
      signers = p.signers;
      separators_len = p.separators_len;
      page_lt_pages = (p.page_lt_pages, p.home_in_bounds c.if-number-eq0.false);
      home_value = p.home_value placed.0 placed.1;
    }

pub returns : goal.returns
returns c =
    let star = c.if-number-eq0.false in
    let placed = in_order _ _ _ (passed _ _ c.ordered.ensures (ap not c.if-not-ordered.false)) in
    record {
      sound = c.stands_on.ensures ∙ sym (passed-item _ _ _ _ _ _ _ _ star (passed _ _ c.ordered.ensures (ap not c.if-not-ordered.false)));
      home = λ e. rw (ne_eqb _ _ star) (c.requires.home_value placed.0 placed.1);
      last = λ e. rw (ne_eqb _ _ star);
    }
