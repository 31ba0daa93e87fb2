-- With v pages settled, what waits stands from `from` up to the end of group v - 1.
use Rattle.std.proofs.Common.{ℕ, List}
use Rattle.std.proofs.Math.Seq.{slice}
use Rattle.page_plan.specs.Plans.{Settleable, Settling}
use Rattle.page_plan.proofs.layout.settle_run.Given as goal

abbrev pub invariant-loop-v : goal.invariant-loop-v
invariant-loop-v l =
    (carried : ℕ) (P W S : List ℕ) → Settleable l.parameters l.lo l.count carried l.end P W S l.ends
    → Settling l.parameters l.lo l.count carried (slice carried l.end W) W P S l.initial.pool l.initial.waiting l.initial.planned l.fn.done.from l.fn.done.pages
    → Settling l.parameters l.lo l.count carried (slice carried l.end W) W P S l.pool l.waiting l.planned l.from l.v
