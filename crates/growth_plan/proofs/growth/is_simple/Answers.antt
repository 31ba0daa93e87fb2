-- `growth_plan::growth::is_simple` meets its contract.
use mathlib.Core.Path.{sym, ap, ◌∙◌}
use mathlib.Core.Bool.{false≢true}
use Prim.Native.Nat.{ℕ}
use native.Mathlib.Omega.{arith}
use lib.ListN.{get_or}
use borrow.Author.Tests.{eqb-true}
use Rattle.hashing.proofs.Bounds.{limits}
use Rattle.growth_plan.proofs.GivenBack.{highest-inside}
use Rattle.growth_plan.proofs.growth.is_simple.Goals as goal

pub bounds-separators-page : goal.bounds-separators-page
bounds-separators-page c =
    omega (arith, c.highest_address-page.ensures, highest-inside _ _ c.requires.parameters_value c.requires.growth_value, c.requires.homed.separators)

pub returns-then-separators-page : goal.returns-then-separators-page
returns-then-separators-page c e = absurd (false≢true e)

pub nonzero_div-pages : goal.nonzero_div-pages
nonzero_div-pages c = (limits _ c.requires.parameters_value).places_least

pub longest_run-requires : goal.longest_run-requires
longest_run-requires c =
    omega (arith, c.requires.homed.separators, (limits _ c.requires.parameters_value).pages_most)

pub returns-then-pages-geometry : goal.returns-then-pages-geometry
returns-then-pages-geometry c e = absurd (false≢true e)

pub returns : goal.returns
returns c e =
    record {
      top = ap (λ (q : ℕ). get_or c.args.separators.now q 0) (sym c.highest_address-page.ensures) ∙ c.if-separators-page.false ∙ c.top_of-top.ensures;
      clean = sym c.first_raisable.ensures ∙ eqb-true _ _ e;
    }
