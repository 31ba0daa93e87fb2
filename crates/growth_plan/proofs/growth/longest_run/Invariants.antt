-- `growth_plan::growth::longest_run` meets its contract: it is safe, and ends.
use Prim.Native.Nat.{◌≤◌}
use Rattle.growth_plan.proofs.growth.longest_run.Given as goal

abbrev pub invariant-loop-separator : goal.invariant-loop-separator
invariant-loop-separator l = l.run ≤ l.separator-index
