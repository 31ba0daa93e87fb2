use mathlib.Core.Path.{◌≡◌, sym, ◌∙◌, ap}
use mathlib.Core.Bool.{true, not}
use Prim.Native.Nat.{◌+◌, ◌≤◌}
use native.Mathlib.Omega.{arith}
use borrow.Author.Rules.{rules}
use Rattle.hashing.specs.Geometry.{page_count, highest}
use Rattle.hashing.specs.Limits.{valid_parameters}
use Rattle.hashing.proofs.Bounds.{limits, growth_within, spread, failed, passed}
use Rattle.calls.specs.Answers.{due_said, refused_by}
use Rattle.capacity.specs.State.{choice_of}
use Rattle.capacity.proofs.States.{chosen-told}
use Rattle.capacity.proofs.state_for.Goals as goal
use Rattle.capacity.proofs.state_for.Goals.{After-highest_address-pages, Else-not-parameters_valid}

pub returns-then-not-parameters_valid : goal.returns-then-not-parameters_valid
unfolding choice_of due_said refused_by
returns-then-not-parameters_valid c = record { choice = rw (failed _ _ c.parameters_valid.ensures (ap not c.if-not-parameters_valid.true)) }

good : (c : Else-not-parameters_valid) → valid_parameters c.args.parameters ≡ true
good c = passed _ _ c.parameters_valid.ensures (ap not c.if-not-parameters_valid.false)

pub first_state-growth-requires : goal.first_state-growth-requires
first_state-growth-requires c = good c

pub highest_address-pages-requires : goal.highest_address-pages-requires
highest_address-pages-requires c = record {
  parameters_value = good c.before;
  growth_value = c.first_state-growth.ensures.1;
}

pages-are : (c : After-highest_address-pages) → c.highest_address-pages.result + 1 ≡ page_count c.args.parameters c.first_state-growth.result
unfolding highest
pages-are c =
    let l = limits _ (good c.before.before) in
    let s = spread _ _ l (growth_within _ _ c.first_state-growth.ensures.1) in
    omega (arith, c.highest_address-pages.ensures, s.pages_low)

pages-most : (c : After-highest_address-pages) → c.highest_address-pages.result + 1 ≤ 1024
pages-most c =
    omega (
      arith,
      pages-are c,
      (growth_within _ _ c.first_state-growth.ensures.1).pages_fit,
      (limits _ (good c.before.before)).pages_most,
    )

pub overflow_add-pages : goal.overflow_add-pages
overflow_add-pages c = omega (arith, pages-most c)

pub exceeds-requires : goal.exceeds-requires
exceeds-requires c = record {
  parameters_value = good c.before.before;
  pages_bound = pages-most c;
}

pub returns-then-exceeds : goal.returns-then-exceeds
unfolding due_said
returns-then-exceeds c =
    let at = c.before.before in
    record { choice = sym (chosen-told _ _ _ _ _ (good at.before.before) at.first_state-growth.ensures.0 (pages-are at) (sym c.exceeds.ensures ∙ c.if-exceeds.true)) }

pub returns : goal.returns
unfolding due_said
returns c =
    let at = c.before.before in
    record { choice = sym (chosen-told _ _ _ _ _ (good at.before.before) at.first_state-growth.ensures.0 (pages-are at) (sym c.exceeds.ensures ∙ c.if-exceeds.false)) }
