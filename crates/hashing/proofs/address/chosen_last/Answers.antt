-- `hashing::chosen_last` meets its contract.
use Prim.Native.Nat.{◌+◌, ◌*◌, ◌≤◌}
use native.Mathlib.Omega.{arith}
use borrow.Author.Rules.{rules}
use Rattle.hashing.specs.Geometry.{multiplier_of}
use Rattle.hashing.specs.Home.{chosen}
use Rattle.hashing.proofs.Bounds.{limits, growth_within, spread}
use Rattle.hashing.proofs.Codes.{code_size}
use Rattle.generator.proofs.Powers.{first_below, times_step}
use Rattle.hashing.proofs.address.chosen_last.Goals as goal
use Rattle.hashing.proofs.address.chosen_last.Goals.{Start}

state : (c : Start) → c.args.geometry.growth.expansions ≤ 32
state c = (spread _ _ (limits _ c.requires.parameters_value) (growth_within _ _ c.requires.growth_value)).expansions_most

pub overflow_mul-i : goal.overflow_mul-i
overflow_mul-i c = omega (arith, state c.before)

pub overflow_add-i : goal.overflow_add-i
overflow_add-i c = omega (arith, state c.before)

pub offset_bounds-table-i : goal.offset_bounds-table-i
offset_bounds-table-i c = omega (arith, state c.before)

pub bounds-table-i : goal.bounds-table-i
bounds-table-i c = omega (arith, state c.before.before.before)

pub chosen-requires : goal.chosen-requires
chosen-requires c =
    let s = c.before.before.before.before in
    record {
      factor_lt_modulus = (rw s.requires.table_value (first_below (multiplier_of s.args.geometry.parameters) (2 * s.args.geometry.growth.expansions + 1) (omega (arith, state s))), s.requires.key_lt_modulus);
      size_bound = omega arith;
    }

pub returns : goal.returns
unfolding chosen
returns c =
    let start = c.before.before.before.before.before in
    let e = start.args.geometry.growth.expansions in
    let p = start.args.geometry.parameters in
    rw (c.chosen.ensures, start.requires.table_value, times_step (multiplier_of p) e start.args.key (state start), start.requires.last_value, code_size p e (limits _ start.requires.parameters_value))
