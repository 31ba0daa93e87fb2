-- `outcome_answer::outcome::placed_from` meets its contract.
use native.Mathlib.Omega.{arith}
use borrow.Author.Rules.{rules}
use Rattle.outcome_answer.proofs.outcome.placed_from.Goals as goal

pub overflow_cast-result : goal.overflow_cast-result
overflow_cast-result c = omega (arith, rw c.in-On.is at c.requires)

pub overflow_cast-result-in-Unsound : goal.overflow_cast-result-in-Unsound
overflow_cast-result-in-Unsound c = omega (arith, rw c.in-Unsound.is at c.requires)

pub returns-in-On : goal.returns-in-On
returns-in-On c = rw c.in-On.is

pub returns-in-Unsound : goal.returns-in-Unsound
returns-in-Unsound c = rw c.in-Unsound.is

pub returns-in-Overflows : goal.returns-in-Overflows
returns-in-Overflows c = rw c.in-Overflows.is
