-- `hashing::next_code` meets its contract.
use mathlib.Core.Logic.{⊎_elim}
use Prim.Native.Nat.{◌≤◌}
use native.Mathlib.Numerals.{add-one}
use native.Mathlib.Omega.{arith}
use borrow.Author.Rules.{rules}
use Rattle.hashing.proofs.Bounds.{limits}
use Rattle.hashing.proofs.Codes.{code_next, code_most}
use Rattle.hashing.proofs.moves.next_code.Goals as goal
use Rattle.hashing.proofs.moves.next_code.Goals.{Start}

low : (c : Start) → c.args.code ≤ 271
low c = rw c.requires.code_value (code_most c.args.parameters c.args.i (limits _ c.requires.parameters_value) (omega (arith, c.requires.i_bound)))

pub overflow_cast-width : goal.overflow_cast-width
overflow_cast-width c = omega (arith, (limits _ c.requires.parameters_value).width_most)

pub overflow_mul-width : goal.overflow_mul-width
overflow_mul-width c = omega (arith, (limits _ c.requires.parameters_value).width_most)

pub overflow_add-result : goal.overflow_add-result
overflow_add-result c = omega (arith, low c.before.before)

pub overflow_sub-result : goal.overflow_sub-result
overflow_sub-result c = omega (arith, (limits _ c.requires.parameters_value).width_most)

pub returns-then-size-width : goal.returns-then-size-width
returns-then-size-width c =
    let start = c.before.before in
    let same = start.requires.code_value in
    rw (add-one start.args.i)
    (⊎_elim (λ w. omega arith) (λ w. omega arith) (code_next start.args.parameters start.args.i (limits _ start.requires.parameters_value)))

pub overflow_add-result-2 : goal.overflow_add-result-2
overflow_add-result-2 c = omega (arith, low c.before.before)

pub returns : goal.returns
returns c =
    let start = c.before.before in
    let same = start.requires.code_value in
    rw (add-one start.args.i)
    (⊎_elim (λ w. omega arith) (λ w. omega arith) (code_next start.args.parameters start.args.i (limits _ start.requires.parameters_value)))
