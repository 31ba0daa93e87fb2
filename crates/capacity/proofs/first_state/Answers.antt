use mathlib.Core.Path.{refl, sym, ◌∙◌, ap}
use mathlib.Core.Bool.{not}
use native.Mathlib.Omega.{arith}
use Rattle.hashing.proofs.Bounds.{limits, failed, passed}
use Rattle.hashing.proofs.Homes.{start-valid, grown-count, grown-valid}
use Rattle.capacity.specs.State.{state_for_lem}
use Rattle.capacity.proofs.States.{start-pages, state-here, state-next, reached-all}
use Rattle.capacity.proofs.first_state.Goals as goal

pub overflow_step-pages : goal.overflow_step-pages
overflow_step-pages c =
    let l = limits _ c.requires in
    omega (arith, l.pages_least, l.pages_most)

pub loop-pages-init : goal.loop-pages-init
unfolding state_for_lem
loop-pages-init c =
    let p = c.args.parameters in
    record { counted = sym (start-pages p); within = (limits p c.requires).pages_least; valid = start-valid p c.requires; leads = refl }

pub exceeds-requires : goal.exceeds-requires
exceeds-requires c =
    record {
      parameters_value = c.requires;
      pages_bound = omega (arith, c.loop-pages.invariant.within, (limits _ c.requires).pages_most);
    }

pub returns-then-not-exceeds : goal.returns-then-not-exceeds
returns-then-not-exceeds c =
    let r = c.loop-pages.invariant in (
      sym (r.leads ∙ state-here _ _ _ _ r.counted c.loop-pages-test.true (failed _ _ c.exceeds.ensures (ap not c.if-not-exceeds.true))),
      r.valid,
    )

pub grown-growth-requires : goal.grown-growth-requires
grown-growth-requires c =
    record {
      parameters_value = c.requires;
      growth_value = c.loop-pages.invariant.valid;
      growth_bound = omega (arith, c.loop-pages.invariant.counted, c.loop-pages-test.true);
    }

pub loop-pages-preserved : goal.loop-pages-preserved
loop-pages-preserved c =
    let p = c.args.parameters in
    let v = c.requires in
    let r = c.loop-pages.invariant in
    let below = c.loop-pages-test.true in
    let stepped = state-next p _ _ c.loop-pages.growth r.counted below (passed _ _ c.exceeds.ensures (ap not c.if-not-exceeds.false)) in
    rw c.grown-growth.ensures
    (record {
      counted = omega (arith, r.counted, grown-count p c.loop-pages.growth v);
      within = omega (arith, below);
      valid = grown-valid p c.loop-pages.growth v r.valid (omega (arith, r.counted, below));
      leads = r.leads ∙ stepped;
    })

pub returns : goal.returns
returns c = (sym (reached-all c.loop-pages.invariant c.loop-pages-test.false), c.loop-pages.invariant.valid)
