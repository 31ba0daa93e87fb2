-- `call_whole_file::verdicts::verdict_checked` meets its contract.
use native.Mathlib.Omega.{arith}
use Rattle.call_whole_file.proofs.verdicts.verdict_checked.Goals as goal

pub overflow_cast-result : goal.overflow_cast-result
overflow_cast-result c =
    let h = rw c.in-Differs.is at c.requires in
    omega (arith, h.0)

pub overflow_cast-result-in-Differs : goal.overflow_cast-result-in-Differs
overflow_cast-result-in-Differs c =
    let h = rw c.in-Differs.is at c.requires in
    omega (arith, h.1)

pub overflow_cast-result-in-Unsound : goal.overflow_cast-result-in-Unsound
overflow_cast-result-in-Unsound c = omega (arith, rw c.in-Unsound.is at c.requires)

pub returns-in-Differs : goal.returns-in-Differs
returns-in-Differs c = rw c.in-Differs.is

pub returns-in-Unsound : goal.returns-in-Unsound
returns-in-Unsound c = rw c.in-Unsound.is
