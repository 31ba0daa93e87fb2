-- `catalogues::collecting::close` meets its contract.
use native.Mathlib.Omega.{arith}
use mathlib.Core.Path.{sym, ◌∙◌}
use Rattle.lines.specs.Shape.{lacked_by}
use Rattle.lines.proofs.Programs.{start-stands}
use borrow.Author.Rules.{rules}
use Rattle.catalogues.proofs.collecting.close.Goals as goal

pub returns-then-is_blank : goal.returns-then-is_blank
unfolding lacked_by
returns-then-is_blank c =
    record {
      fit_2 = c.requires.fit;
      stands = rw (sym c.is_blank.ensures ∙ c.if-is_blank.true) (start-stands _ _ _ _, omega arith);
    }

pub returns : goal.returns
unfolding lacked_by
returns c =
    let done = c.end_line.ensures in
    record {
      fit_2 = done.fit_2;
      stands = rw (sym c.is_blank.ensures ∙ c.if-is_blank.false) (done.stands.0, omega (arith, done.stands.1));
    }
