-- `soundness::stretches::survey` meets its contract.
use Prim.Native.Nat.{◌+◌, ◌-◌, ◌*◌, ◌≤◌}
use native.Mathlib.Nat.{mul-le-mul_right}
use native.Mathlib.Omega.{arith}
use lib.ListN.{length}
use borrow.Author.Rules.{rules}
use Rattle.soundness.proofs.Lent.{ahead, homes-put}
use Rattle.soundness.proofs.stretches.survey.Goals as goal
use Rattle.soundness.proofs.stretches.survey.Goals.{Start}

-- the stretch's items stand in the list of numbers
within : (s : Start) → s.args.from * s.args.geometry.parameters.places + (s.args.stop - s.args.from) * s.args.geometry.parameters.places ≤ length s.args.numbers.now
within s =
    let b = s.args.geometry.parameters.places in
    omega (arith, ahead b s.args.from s.args.stop s.requires.from_le_stop.0, mul-le-mul_right {m = s.args.stop} {n = s.args.geometry.parameters.pages} b s.requires.from_le_stop.1, s.requires.ready.sized.of_numbers)

pub overflow_mul-from : goal.overflow_mul-from
overflow_mul-from c = search (rules, within c.before.before.before.before.before.before.before)

pub find_homes-requires : goal.find_homes-requires
find_homes-requires c =
    let s = c.before.before.before.before.before.before.before.before in
    record {
      homing = s.requires.ready.homing;
      in_bounds = (within s, s.requires.places_in_bounds);
    }

pub first_unsound_near-requires : goal.first_unsound_near-requires
first_unsound_near-requires c =
    let s = c.before.before.before.before.before.before.before.before.before.before.before in
    let b = s.args.geometry.parameters.places in
    let d = c.find_homes in record {
      ready = s.requires.ready;
      from_le_stop = s.requires.from_le_stop;
      places_in_bounds = omega (arith, s.requires.places_in_bounds, d.auto.homes);
      homes_at = homes-put s.args.geometry s.args.numbers.now s.args.homes.now _ (s.args.from * b) s.args.to ((s.args.stop - s.args.from) * b) s.requires.places_in_bounds (within s) d.ensures;
    }
