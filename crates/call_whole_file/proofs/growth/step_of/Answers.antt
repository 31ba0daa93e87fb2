-- `call_whole_file::growth::step_of` meets its contract.
use mathlib.Core.Path.{◌≡◌, ◌∙◌, sym}
use mathlib.Core.Bool.{true}
use Prim.Native.Nat.{ℕ, ◌+◌, ◌-◌, ◌≤◌}
use native.Mathlib.Omega.{arith}
use borrow.Author.Tests.{eq-eqb, ne_eqb}
use Rattle.hashing.specs.Geometry.{highest, page_count}
use Rattle.hashing.proofs.Bounds.{limits, growth_within, spread}
use Rattle.call_whole_file.specs.Outcomes.{step_of}
use Rattle.call_whole_file.proofs.Stepping.{further}
use Rattle.hashing.specs.declared.Parameters.{Parameters}
use Rattle.hashing.specs.declared.Growth.{Growth}
use Rattle.hashing.specs.Limits.{valid_parameters, valid_growth}
use Rattle.call_whole_file.proofs.growth.step_of.Goals as goal

module _ (p : Parameters) (g : Growth) (v : valid_parameters p ≡ true) (w : valid_growth p g ≡ true) (top : ℕ) (e : top ≡ highest p g) where
  -- the page past the highest address is the count of pages
  page-is : top + 1 ≡ page_count p g
  unfolding highest
  page-is = omega (arith, e, (spread _ _ (limits _ v) (growth_within _ _ w)).pages_low)

  pages-most : page_count p g ≤ 1024
  pages-most = omega (arith, (growth_within p g w).pages_fit, (limits _ v).pages_most)

  -- past the last test there is a further page
  less : (top + 1 ≡ p.pages → ⊥) → highest p g ≡ p.pages - 1 → ⊥
  unfolding highest
  less other last =
      let within = growth_within p g w in
      other (omega (arith, page-is, within.pages_fit, (spread _ _ (limits _ v) within).pages_low))

pub returns-then-ungrown : goal.returns-then-ungrown
unfolding step_of
returns-then-ungrown c = rw (c.if-back.true, sym c.ungrown.ensures ∙ c.if-ungrown.true)

pub shrunk-requires : goal.shrunk-requires
shrunk-requires c = record {
  parameters_value = c.requires.parameters_value;
  growth_value = c.requires.growth_value;
  growth_value_2 = sym c.ungrown.ensures ∙ c.if-ungrown.false;
}

pub returns-then-back : goal.returns-then-back
unfolding step_of
returns-then-back c = rw (c.if-back.true, sym c.ungrown.ensures ∙ c.if-ungrown.false, c.shrunk.ensures, c.highest_address-highest.ensures)

pub overflow_add-page : goal.overflow_add-page
overflow_add-page c =
    let v = c.requires.parameters_value in
    let w = c.requires.growth_value in
    omega (arith, page-is _ _ v w _ c.highest_address-highest.ensures, pages-most _ _ v w _ c.highest_address-highest.ensures)

pub returns-then-page-geometry : goal.returns-then-page-geometry
unfolding step_of highest
returns-then-page-geometry c =
    let p = c.args.geometry.parameters in
    let g = c.args.geometry.growth in
    let last : highest p g ≡ p.pages - 1 = omega (arith, c.if-page-geometry.true, c.highest_address-highest.ensures) in
    rw (c.if-back.false, eq-eqb (highest p g) (p.pages - 1) last)

pub grown-requires : goal.grown-requires
grown-requires c =
    let v = c.requires.parameters_value in
    let w = c.requires.growth_value in
    record {
      parameters_value = v;
      growth_value = w;
      growth_bound = further _ _ w (less _ _ v w _ c.highest_address-highest.ensures c.if-page-geometry.false);
    }

pub returns : goal.returns
unfolding step_of
returns c =
    let v = c.requires.parameters_value in
    let w = c.requires.growth_value in
    rw (
      c.if-back.false,
      ne_eqb (highest c.args.geometry.parameters c.args.geometry.growth) _ (less _ _ v w _ c.highest_address-highest.ensures c.if-page-geometry.false),
      c.grown.ensures,
      page-is _ _ v w _ c.highest_address-highest.ensures,
    )
