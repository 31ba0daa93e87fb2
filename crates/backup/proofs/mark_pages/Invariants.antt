-- `backup::mark_pages` meets its contract.
use Rattle.backup.proofs.Stepping.{Upto}
use Rattle.backup.proofs.mark_pages.Given as goal

abbrev pub invariant-loop-page : goal.invariant-loop-page
invariant-loop-page l = Upto l.geometry.parameters l.geometry.growth l.old l.new l.initial.marks l.marks l.run l.page
