-- `hashing::ranks::rank` meets its contract.
use mathlib.Core.Path.{refl}
use native.Mathlib.Nat.{div-le_self}
use native.Mathlib.Omega.{arith}
use borrow.Author.Rules.{rules}
use Rattle.hashing.specs.Geometry.{rank}
use Rattle.hashing.specs.Moves.{inverse_of_lem}
use Rattle.hashing.proofs.ranks.rank.Goals as goal

pub overflow_add-inverse : goal.overflow_add-inverse
overflow_add-inverse c = omega (arith, div-le_self 524288 c.args.step)

pub swept-requires : goal.swept-requires
unfolding inverse_of_lem
swept-requires c = record {
  le_step = search rules;
  inverse_value = refl;
  t_lt_count = (omega arith, search rules);
}

pub returns : goal.returns
unfolding rank
returns c = c.swept.ensures
