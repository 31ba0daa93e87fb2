-- `backup::refusal_of` meets its contract.
use mathlib.Core.Path.{◌≡◌, sym, ◌∙◌, ap}
use mathlib.Core.Bool.{true, not}
use native.Mathlib.Omega.{arith}
use borrow.Author.Rules.{rules}
use borrow.Author.Tests.{eq-eqb, ne_eqb}
use Rattle.hashing.specs.Limits.{valid_parameters, valid_growth}
use Rattle.hashing.proofs.Bounds.{limits, growth_within, spread, passed, failed}
use Rattle.backup.specs.Marks.{mark_refusal}
use Rattle.backup.proofs.refusal_of.Goals as goal
use Rattle.backup.proofs.refusal_of.Goals.{Else-not-growth_valid}

state : (c : Else-not-growth_valid)
    → (valid_parameters c.args.parameters ≡ true)
    × (valid_growth c.args.parameters c.args.growth ≡ true)
state c = (passed _ _ c.parameters_valid.ensures (ap not c.if-not-parameters_valid.false), passed _ _ c.growth_valid.ensures (ap not c.if-not-growth_valid.false))

pub returns-then-not-parameters_valid : goal.returns-then-not-parameters_valid
unfolding mark_refusal
returns-then-not-parameters_valid c = rw (failed _ _ c.parameters_valid.ensures (ap not c.if-not-parameters_valid.true))

pub growth_valid-requires : goal.growth_valid-requires
growth_valid-requires c = passed _ _ c.parameters_valid.ensures (ap not c.if-not-parameters_valid.false)

pub returns-then-not-growth_valid : goal.returns-then-not-growth_valid
unfolding mark_refusal
returns-then-not-growth_valid c =
    rw (
      passed _ _ c.parameters_valid.ensures (ap not c.if-not-parameters_valid.false),
      failed _ _ c.growth_valid.ensures (ap not c.if-not-growth_valid.true),
    )

pub returns-then-old-pages : goal.returns-then-old-pages
unfolding mark_refusal
returns-then-old-pages c = rw ((state c.before.before).0, (state c.before.before).1, ne_eqb _ _ c.if-old-pages.true)

pub returns-then-new-pages : goal.returns-then-new-pages
unfolding mark_refusal
returns-then-new-pages c =
    let s = state c.before.before.before in
    rw (s.0, s.1, eq-eqb _ _ c.if-old-pages.false, ne_eqb _ _ c.if-new-pages.true)

pub returns-then-marks-pages : goal.returns-then-marks-pages
unfolding mark_refusal
returns-then-marks-pages c =
    let s = state c.before.before.before.before in
    rw (s.0, s.1, eq-eqb _ _ c.if-old-pages.false, eq-eqb _ _ c.if-new-pages.false, ne_eqb _ _ c.if-marks-pages.true)

pub highest_address-requires : goal.highest_address-requires
highest_address-requires c = record {
  parameters_value = (state c.before.before.before.before).0;
  growth_value = (state c.before.before.before.before).1;
}

pub overflow_sub-parameters : goal.overflow_sub-parameters
overflow_sub-parameters c =
    let s = state c.before.before.before.before.before.before in
    let w = growth_within _ _ s.1 in
    omega (arith, w.pages_fit, (spread _ _ (limits _ s.0) w).pages_low)

pub returns-then-highest_address-parameters : goal.returns-then-highest_address-parameters
unfolding mark_refusal
returns-then-highest_address-parameters c =
    let s = state c.before.before.before.before.before.before.before in
    rw (
      s.0,
      s.1,
      eq-eqb _ _ c.if-old-pages.false,
      eq-eqb _ _ c.if-new-pages.false,
      eq-eqb _ _ c.if-marks-pages.false,
      eq-eqb _ _ (sym c.highest_address.ensures ∙ c.if-highest_address-parameters.true),
    )

pub returns : goal.returns
unfolding mark_refusal
returns c =
    let s = state c.before.before.before.before.before.before.before in
    rw (
      s.0,
      s.1,
      eq-eqb _ _ c.if-old-pages.false,
      eq-eqb _ _ c.if-new-pages.false,
      eq-eqb _ _ c.if-marks-pages.false,
      ne_eqb _ _ (λ e. c.if-highest_address-parameters.false (c.highest_address.ensures ∙ e)),
    )
