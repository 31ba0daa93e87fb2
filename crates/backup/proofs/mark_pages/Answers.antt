-- `backup::mark_pages` meets its contract.
use mathlib.Core.Path.{refl}
use mathlib.Core.Bool.{false}
use native.Mathlib.Omega.{arith}
use Rattle.hashing.proofs.Bounds.{limits}
use Rattle.backup.proofs.Stepping.{upto-none, upto_next, upto_all}
use Rattle.backup.proofs.mark_pages.Goals as goal

pub loop-page-init : goal.loop-page-init
loop-page-init c = upto-none _ _ _ _ _ (record { group = false; added = false }) refl refl

pub overflow_cast-page : goal.overflow_cast-page
overflow_cast-page c = omega (arith, (limits c.args.geometry.parameters c.requires.parameters_value).pages_most)

pub loop-page-preserved : goal.loop-page-preserved
loop-page-preserved c =
    upto_next _ _ _ _ _ _ _ _ c.loop-page.invariant c.requires.marks_len _ c.requires.growth_bound (omega arith) c.reached-here.ensures _ c.mark_of.ensures _ c.passed-run.ensures

pub returns : goal.returns
returns c = upto_all _ _ _ _ _ _ _ _ c.loop-page.invariant c.requires.marks_len (omega arith)
