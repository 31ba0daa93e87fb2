-- The old file's pages by stretches or all at once; then each return by what the parts tell.
use mathlib.Core.Path.{◌≡◌, ◌∙◌}
use Prim.Native.Nat.{◌*◌, ◌≤◌}
use native.Mathlib.Nat.{zero-add, sub-zero}
use native.Mathlib.Omega.{arith}
use lib.ListN.{length}
use Rattle.hashing.proofs.Bounds.{limits}
use Rattle.placement.specs.Hash.{lent}
use Rattle.placement.proofs.Prepared.{ready}
use Rattle.reach.specs.Reach.{first_unsound_lem}
use Rattle.reach.proofs.Surveyed.{lowest_first_lem}
use Rattle.carrying.proofs.Carried.{carried-few, carried-numbers, tested-carried}
use Rattle.carrying.proofs.second.carry_pages.Goals as goal

-- the start, from either survey
pub first_multipliers-table-requires : goal.first_multipliers-table-requires
first_multipliers-table-requires c =
    (limits c.args.old.parameters c.requires.ready.homing.valid).multiplier_valid

pub place_second-requires : goal.place_second-requires
place_second-requires c =
    record {
      ready = c.requires.ready_2;
      numbers_len_bound = λ h. (
        carried-few c.args.old c.args.new (lent c.args.separators.now c.args.numbers.now c.args.words.now c.args.owners.now) (lent c.args.secondseparators.now c.args.secondnumbers.now c.args.secondwords.now c.args.secondowners.now) _ c.lowest_unsound-bad.ensures c.requires.ready.homing.valid c.requires.ready.sized h,
        carried-numbers c.args.old c.args.new (lent c.args.separators.now c.args.numbers.now c.args.words.now c.args.owners.now) (lent c.args.secondseparators.now c.args.secondnumbers.now c.args.secondwords.now c.args.secondowners.now) _ c.lowest_unsound-bad.ensures c.requires.ready.homing.valid c.requires.ready.sized h,
      );
      pool_len = c.requires.pool_len;
      waiting_len = c.requires.waiting_len;
    }

pub returns-then-pool-numbers : goal.returns-then-pool-numbers
returns-then-pool-numbers c =
    record {
      value = (tested-carried c.args.old c.args.new (lent c.args.separators.now c.args.numbers.now c.args.words.now c.args.owners.now) (lent c.args.secondseparators.now c.args.secondnumbers.now c.args.secondwords.now c.args.secondowners.now) _ c.lowest_unsound-bad.ensures c.requires.ready.homing.valid c.requires.ready.sized
          c.requires.ready_2.homing.valid c.requires.ready_2.homing.growth _ _ c.place_second.ensures.value c.place_second.ensures.places_second).0;
      secondowners_value = (tested-carried c.args.old c.args.new (lent c.args.separators.now c.args.numbers.now c.args.words.now c.args.owners.now) (lent c.args.secondseparators.now c.args.secondnumbers.now c.args.secondwords.now c.args.secondowners.now) _ c.lowest_unsound-bad.ensures c.requires.ready.homing.valid c.requires.ready.sized
          c.requires.ready_2.homing.valid c.requires.ready_2.homing.growth _ _ c.place_second.ensures.value c.place_second.ensures.places_second).1;
    }

pub survey-bad-requires : goal.survey-bad-requires
survey-bad-requires c =
    let p = c.args.old.parameters in
    let room : p.pages * p.places ≤ length c.args.pool.now = omega (arith, c.requires.ready.sized.of_numbers) in record {
      ready = ready c.first_multipliers-table.ensures c.requires.ready.homing.valid c.requires.ready.homing.growth c.requires.ready.sized;
      from_le_stop = (omega arith, omega arith);
      places_in_bounds = rw (sub-zero p.pages) (omega (arith, room));
    }

pub place_second-requires-2 : goal.place_second-requires-2
place_second-requires-2 c =
    let found : c.survey-bad.result ≡ first_unsound_lem c.args.old.parameters c.args.old.growth (lent c.args.separators.now c.args.numbers.now c.args.words.now c.args.owners.now) 0 c.args.old.parameters.pages = lowest_first_lem c.args.old.parameters c.args.old.growth (lent c.args.separators.now c.args.numbers.now c.args.words.now c.args.owners.now) _ _ _ c.survey-bad.ensures.lowest _ (zero-add _) in
    record {
      ready = c.requires.ready_2;
      numbers_len_bound = λ h. (
        carried-few c.args.old c.args.new (lent c.args.separators.now c.args.numbers.now c.args.words.now c.args.owners.now) (lent c.args.secondseparators.now c.args.secondnumbers.now c.args.secondwords.now c.args.secondowners.now) _ found c.requires.ready.homing.valid c.requires.ready.sized h,
        carried-numbers c.args.old c.args.new (lent c.args.separators.now c.args.numbers.now c.args.words.now c.args.owners.now) (lent c.args.secondseparators.now c.args.secondnumbers.now c.args.secondwords.now c.args.secondowners.now) _ found c.requires.ready.homing.valid c.requires.ready.sized h,
      );
      pool_len = c.survey-bad.auto.homes ∙ c.requires.pool_len;
      waiting_len = c.requires.waiting_len;
    }

pub returns : goal.returns
returns c =
    let found : c.survey-bad.result ≡ first_unsound_lem c.args.old.parameters c.args.old.growth (lent c.args.separators.now c.args.numbers.now c.args.words.now c.args.owners.now) 0 c.args.old.parameters.pages = lowest_first_lem c.args.old.parameters c.args.old.growth (lent c.args.separators.now c.args.numbers.now c.args.words.now c.args.owners.now) _ _ _ c.survey-bad.ensures.lowest _ (zero-add _) in
    record {
      value = (tested-carried c.args.old c.args.new (lent c.args.separators.now c.args.numbers.now c.args.words.now c.args.owners.now) (lent c.args.secondseparators.now c.args.secondnumbers.now c.args.secondwords.now c.args.secondowners.now) _ found c.requires.ready.homing.valid c.requires.ready.sized
          c.requires.ready_2.homing.valid c.requires.ready_2.homing.growth _ _ c.place_second-2.ensures.value c.place_second-2.ensures.places_second).0;
      secondowners_value = (tested-carried c.args.old c.args.new (lent c.args.separators.now c.args.numbers.now c.args.words.now c.args.owners.now) (lent c.args.secondseparators.now c.args.secondnumbers.now c.args.secondwords.now c.args.secondowners.now) _ found c.requires.ready.homing.valid c.requires.ready.sized
          c.requires.ready_2.homing.valid c.requires.ready_2.homing.growth _ _ c.place_second-2.ensures.value c.place_second-2.ensures.places_second).1;
    }
