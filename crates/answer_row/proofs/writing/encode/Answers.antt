-- `answer_row::writing::encode` meets its contract. The declination goes to `unsigned` as bits, and fits.
use mathlib.Core.Path.{◌∙◌}
use mir.Syntax.{w32}
use mir.Facts.{to_z-of_z}
use Rattle.answer_row.specs.Rows.{encoded}
use borrow.Author.Rules.{rules}
use Rattle.answer_row.proofs.Rows.{flagged}
use Rattle.answer_row.proofs.writing.encode.Goals as goal

pub returns : goal.returns
unfolding encoded
returns c =
    let back = to_z-of_z {w = w32} {z = c.args.answer.position.dec} (search rules) in
    rw (c.from-due.ensures ∙ flagged _, c.unsigned-dec.ensures, back, c.from-found.ensures ∙ flagged _)
