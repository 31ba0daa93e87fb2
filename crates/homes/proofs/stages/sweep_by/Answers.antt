-- `homes::stages::sweep_by` meets its contract.
use native.Mathlib.Omega.{arith}
use borrow.Author.Rules.{rules}
use borrow.Author.Tests.{le-leb, lt-leb}
use Rattle.homes.specs.Stages.{sweep_of, sweep_by_lem}
use Rattle.homes.proofs.Prepared.{long-inverse}
use Rattle.homes.proofs.stages.sweep_by.Goals as goal

pub returns-then-step-le64 : goal.returns-then-step-le64
unfolding sweep_of sweep_by_lem
returns-then-step-le64 c = rw (le-leb c.args.step 64 c.if-step-le64.true)

pub overflow_cast-result-2 : goal.overflow_cast-result-2
overflow_cast-result-2 c = omega (arith, long-inverse c.args.step c.if-step-le64.false)

pub returns : goal.returns
unfolding sweep_of sweep_by_lem
returns c = rw (lt-leb c.args.step 64 c.if-step-le64.false)
