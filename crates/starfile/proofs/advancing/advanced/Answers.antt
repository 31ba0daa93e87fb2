-- `starfile::advancing::advanced` meets its contract.
use mathlib.Core.Path.{◌≡◌, sym, ◌∙◌, ap}
use Prim.Native.Nat.{suc}
use native.Mathlib.Numerals.{add-one}
use borrow.Author.Tests.{eq-eqb, ne_eqb}
use Rattle.hashing.proofs.Bounds.{passed, failed}
use Rattle.starfile.specs.Steps.{advanced_by}
use mathlib.Core.Bool.{not}
use Rattle.starfile.proofs.advancing.advanced.Goals as goal

pub returns-then-not-accepted : goal.returns-then-not-accepted
unfolding advanced_by
returns-then-not-accepted c = rw (failed _ _ c.accepted.ensures (ap not c.if-not-accepted.true))

pub returns-then-steps-parameters : goal.returns-then-steps-parameters
unfolding advanced_by
returns-then-steps-parameters c =
    let last : suc c.args.growth.steps ≡ c.args.parameters.pages = sym (add-one c.args.growth.steps) ∙ c.if-steps-parameters.true in
    rw (passed _ _ c.accepted.ensures (ap not c.if-not-accepted.false), eq-eqb _ _ last, c.at_rest_after.ensures)

pub returns : goal.returns
unfolding advanced_by
returns c =
    rw (passed _ _ c.accepted.ensures (ap not c.if-not-accepted.false), ne_eqb (suc c.args.growth.steps) c.args.parameters.pages (λ e. c.if-steps-parameters.false (add-one c.args.growth.steps ∙ e)), add-one c.args.growth.steps)
