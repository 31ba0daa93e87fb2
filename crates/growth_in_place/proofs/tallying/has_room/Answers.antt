use mathlib.Core.Path.{◌∙◌}
use mathlib.Core.Bool.{false≢true}
use mathlib.Core.Logic.{inl, inr}
use Prim.Native.Nat.{◌-◌}
use native.Mathlib.Omega.{arith}
use borrow.Author.Tests.{eqb-true}
use Rattle.pages.proofs.Parts.{part-item}
use Rattle.growth_in_place.proofs.tallying.has_room.Goals as goal

pub returns-then-count-eq0 : goal.returns-then-count-eq0
returns-then-count-eq0 c = λ e. inl c.if-count-eq0.true

pub returns-then-places-count : goal.returns-then-places-count
returns-then-places-count c = λ e. absurd (false≢true e)

pub returns : goal.returns
returns c =
    λ e.
    inr (omega arith, part-item c.args.places c.args.page c.args.numbers.now (c.args.places - c.args.count) (omega arith) ∙ eqb-true _ _ e)
