-- `hashing::ranked` meets its contract.
use Prim.Native.Nat.{◌≤◌}
use native.Mathlib.Omega.{arith}
use borrow.Author.Rules.{rules}
use Rattle.hashing.specs.Geometry.{rank}
use Rattle.hashing.proofs.Bounds.{limits}
use Rattle.hashing.proofs.moves.ranked.Goals as goal
use Rattle.hashing.proofs.moves.ranked.Goals.{Start}

step-most : (c : Start) → c.args.parameters.step ≤ 256
step-most c = let l = limits _ c.requires.parameters_value in omega (arith, l.step_most, l.groups_most)

pub overflow_cast-parameters : goal.overflow_cast-parameters
overflow_cast-parameters c = omega (arith, step-most c.before.before)

pub swept-requires : goal.swept-requires
swept-requires c =
    let start = c.before.before in
    record {
      le_step = ((limits _ start.requires.parameters_value).step_least, step-most start);
      inverse_value = start.requires.inverse_value;
      t_lt_count = (omega (arith, start.requires.group_bound.0, c.count_of-count.ensures), omega (arith, start.requires.group_bound.1, c.count_of-count.ensures));
    }

pub returns : goal.returns
unfolding rank
returns c = rw (c.swept.ensures, c.count_of-count.ensures)
