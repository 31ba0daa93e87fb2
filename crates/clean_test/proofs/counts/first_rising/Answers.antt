-- No page passed over has a separator that could be one greater.
use mathlib.Core.Path.{◌≡◌, sym, ◌∙◌}
use native.Mathlib.Omega.{arith}
use native.Mathlib.Numerals.{add-one}
use Rattle.hashing.proofs.Bounds.{limits}
use Rattle.reach.proofs.Search.{sought-next, sought-found, sought-all}
use Rattle.clean_test.proofs.counts.first_rising.Goals as goal

pub bounds-counts-page : goal.bounds-counts-page
bounds-counts-page c = omega (arith, (limits c.args.parameters c.requires.parameters_value).pages_most)

pub returns-then-could_rise : goal.returns-then-could_rise
returns-then-could_rise c = sought-found _ _ _ _ c.loop-page.invariant (omega arith) (rw c.top_of-top.ensures at (sym c.could_rise.ensures) ∙ c.if-could_rise.true)

pub loop-page-preserved : goal.loop-page-preserved
loop-page-preserved c =
    rw (add-one c.loop-page.page) (sought-next _ _ _ _ c.loop-page.invariant (omega arith) (rw c.top_of-top.ensures at (sym c.could_rise.ensures) ∙ c.if-could_rise.false))

pub returns : goal.returns
returns c =
    let all : c.loop-page.page ≡ c.args.stop = omega arith in
    sought-all _ _ _ _ (rw all at c.loop-page.invariant) (omega arith)
