-- `hashing::page_of` meets its contract.
use borrow.Author.Rules.{rules}
use native.Mathlib.Omega.{arith}
use Rattle.hashing.specs.Moves.{code_page}
use Rattle.hashing.proofs.moves.page_of.Goals as goal

pub overflow_mul-result : goal.overflow_mul-result
overflow_mul-result c = rw c.count_of.ensures (omega (arith, c.requires.landed.1.1))

pub overflow_add-result : goal.overflow_add-result
overflow_add-result c = rw c.count_of.ensures (omega (arith, c.requires.landed))

pub returns : goal.returns
unfolding code_page
returns c = rw c.count_of.ensures
