use mathlib.Core.Path.{◌≡◌}
use Prim.Native.Nat.{◌-◌}
use native.Mathlib.Numerals.{add-one}
use native.Mathlib.Omega.{arith}
use lib.ListN.{length}
use borrow.Author.Tests.{eq-eqb, ne_eqb}
use Rattle.reach.proofs.Search.{sought-none, sought-next, sought-found, sought-all}
use Rattle.reach.proofs.ends.stretch_end.Goals as goal

pub loop-page-init : goal.loop-page-init
loop-page-init c = sought-none _ _ _

pub returns-then-separators-page : goal.returns-then-separators-page
returns-then-separators-page c = sought-found _ _ _ _ c.loop-page.invariant (omega arith) (eq-eqb _ _ c.if-separators-page.true)

pub loop-page-preserved : goal.loop-page-preserved
loop-page-preserved c = rw (add-one _) (sought-next _ _ _ _ c.loop-page.invariant (omega arith) (ne_eqb _ _ c.if-separators-page.false))

pub returns : goal.returns
returns c =
    let all : c.loop-page.page ≡ length c.args.separators.now - 1 = omega arith in
    sought-all _ _ _ _ (rw all at c.loop-page.invariant) (omega arith)
