-- `fits_pages::columns::number_at` meets its contract.
use mathlib.Core.Path.{◌∙◌}
use native.Mathlib.Omega.{arith}
use borrow.Author.Rules.{rules}
use Rattle.fits_pages.proofs.ReadColumns.{numbers_long, named_none, named-beyond, number-named}
use Rattle.fits_pages.proofs.columns.number_at.Goals as goal

pub returns-then-from-eq0 : goal.returns-then-from-eq0
returns-then-from-eq0 c = named_none _ _ (omega (arith, c.if-from-eq0.true))

pub returns-then-rows-from : goal.returns-then-rows-from
returns-then-rows-from c = named-beyond _ _ _ (numbers_long _ _) (omega (arith, c.if-rows-from.true))

pub returns : goal.returns
returns c = c.get_32.ensures ∙ number-named _ _ _ (λ e. c.if-from-eq0.false (omega arith)) (omega (arith, c.if-rows-from.false))
