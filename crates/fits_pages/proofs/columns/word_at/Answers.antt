-- `fits_pages::columns::word_at` meets its contract.
use mathlib.Core.Path.{◌∙◌}
use native.Mathlib.Omega.{arith}
use Rattle.fits_pages.proofs.ReadColumns.{words_long, named_none, named-beyond, word-taken, never_wrong}
use borrow.Author.Rules.{rules}
use Rattle.fits_pages.proofs.columns.word_at.Goals as goal

pub returns-then-from-eq0 : goal.returns-then-from-eq0
returns-then-from-eq0 c = named_none _ _ (omega (arith, c.if-from-eq0.true))

pub returns-then-rows-from : goal.returns-then-rows-from
returns-then-rows-from c = named-beyond _ _ _ (words_long _ _) (omega (arith, c.if-rows-from.true))

pub returns-in-Star : goal.returns-in-Star
returns-in-Star c =
    let d = c in
    let s = c in
    word-taken s.args.given.now s.args.rows s.args.source s.requires.rows_value (λ e. d.if-from-eq0.false (omega arith))
    (omega (arith, d.if-rows-from.false)) d.row_at.ensures _ _ c.in-Star.is

pub returns-in-Wrong : goal.returns-in-Wrong
returns-in-Wrong c =
    let d = c in
    let s = c in
    absurd (never_wrong s.args.given.now s.args.rows s.args.source s.requires.rows_value (λ e. d.if-from-eq0.false (omega arith))
    (omega (arith, d.if-rows-from.false)) d.row_at.ensures c.in-Wrong.is)
