use mathlib.Core.Path.{sym, ◌∙◌}
use mathlib.Core.Bool.{false≢true}
use borrow.Author.Tests.{eqb-true}
use Rattle.growth_in_place.proofs.renewing.stays.Goals as goal

pub returns-then-count-gt64 : goal.returns-then-count-gt64
returns-then-count-gt64 c = λ e. absurd (false≢true e)

pub returns : goal.returns
returns c = λ e. sym c.first_raisable.ensures ∙ eqb-true _ _ e
