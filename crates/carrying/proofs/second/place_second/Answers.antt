-- The last two returns by the plan.
use mathlib.Core.Path.{◌≡◌, refl}
use mathlib.Core.Bool.{true}
use lib.ListN.{length}
use native.Mathlib.Omega.{arith}
use Rattle.placement.specs.Hash.{lent}
use Rattle.carrying.proofs.Carried.{planned-long, placed-none, placed-stars}
use Rattle.carrying.proofs.second.place_second.Goals as goal

pub returns-then-bad-old : goal.returns-then-bad-old
returns-then-bad-old c = record {
  value = λ h. (refl, refl);
  places_second = λ h. absurd (omega (arith, c.if-bad-old.true));
}

pub plan_all-requires : goal.plan_all-requires
plan_all-requires c =
    record {
      parameters_value = (c.requires.ready.homing.valid, c.requires.ready.homing.growth);
      numbers_len_bound = c.requires.numbers_len_bound (omega arith);
      pool_len = c.requires.pool_len;
      waiting_len = c.requires.waiting_len;
      planned_len = refl;
    }

pub returns-then-not-plan_all : goal.returns-then-not-plan_all
returns-then-not-plan_all c =
    record {
      value = λ h. absurd (omega arith);
      places_second = λ h. placed-none c.args.new c.args.numbers.now c.args.words.now c.args.owners.now _ _ _ c.plan_all.ensures (lent c.args.secondseparators.now c.args.secondnumbers.now c.args.secondwords.now c.args.secondowners.now) c.if-not-plan_all.true;
    }

pub write_second-requires : goal.write_second-requires
write_second-requires c =
    let z = c.requires.ready.sized in
    let k = c.plan_all.auto.pool in
    let yes : c.plan_all.result ≡ true = c.if-not-plan_all.false in record {
      secondseparators_in_bounds = omega (arith, z.of_separators, planned-long _ _ _ (c.plan_all.ensures.separators_are yes));
      secondnumbers_len = omega (arith, z.of_numbers, c.requires.pool_len, k);
      secondwords_len = omega (arith, z.of_words_lem, c.requires.pool_len, k);
      secondowners_len = omega (arith, z.of_owners, c.requires.pool_len, k);
    }

pub returns : goal.returns
returns c =
    let count : length c.args.secondseparators.now ≡ c.args.new.parameters.pages = c.requires.ready.sized.of_separators in record {
      value = λ h. absurd (omega arith);
      places_second = λ h. placed-stars c.args.new c.args.numbers.now c.args.words.now c.args.owners.now _ _ _ c.plan_all.ensures (lent c.args.secondseparators.now c.args.secondnumbers.now c.args.secondwords.now c.args.secondowners.now) c.if-not-plan_all.false _
          (rw count at c.write_second.ensures);
    }
