use mathlib.Core.Path.{◌≡◌, refl, ◌∙◌}
use Prim.Native.Nat.{◌*◌}
use native.Mathlib.Omega.{arith}
use lib.ListN.{length}
use Rattle.hashing.proofs.Bounds.{limits}
use Rattle.placement.specs.File.{File}
use Rattle.placement.specs.Hash.{hash_of, lent}
use Rattle.page_separator.specs.Lists.{all}
use Rattle.page_plan.proofs.Placed.{Gatherable}
use Rattle.rule_check.proofs.Planned.{homes-long, stars-inside, ready, planned-ruled, spot_ruled}
use borrow.Author.Rules.{rules}
use Rattle.calls.proofs.Refusals.{items-most}
use Rattle.rule_check.proofs.telling.compare_planned.Goals as goal
use Rattle.rule_check.proofs.telling.compare_planned.Goals.{Start}

abbrev file : Start → File
file s = lent s.args.separators.now s.args.numbers.now s.args.words.now s.args.owners.now

pool-long : (s : Start) → length s.args.pool.now ≡ s.args.geometry.parameters.pages * s.args.geometry.parameters.places
pool-long s = homes-long _ _ (file s) s.requires.ready.homing.valid s.requires.ready.homing.growth s.requires.ready.sized s.requires.pages_value _ s.requires.pool_value

prepared : (s : Start) → Gatherable (hash_of s.args.geometry.parameters s.args.geometry.growth) s.args.geometry.parameters.places 0 s.args.geometry.parameters.pages (file s) s.args.pool.now
prepared s = ready _ _ (file s) s.requires.ready.homing.valid s.requires.ready.homing.growth s.requires.ready.sized s.requires.pages_value _ s.requires.pool_value

pub plan-requires : goal.plan-requires
unfolding all
plan-requires c =
    let s = c.before.before.before.before.before.before.before.before.before.before.before.before.before.before in
    let l = limits _ s.requires.ready.homing.valid in
    let R = prepared s in
    let stars = stars-inside _ _ (file s) s.requires.ready.homing.valid s.requires.ready.homing.growth s.requires.ready.sized s.requires.pages_value _ s.requires.pool_value in record {
      parameters_value = s.requires.ready.homing.valid;
      count_nonzero = (R.some, (omega (arith, l.pages_most), omega (arith, l.pages_most)));
      places_in_bounds = (R.numbers, R.homes);
      numbers_value = R.valid;
      pool_value = R.within;
      numbers_in_bounds = (omega (arith, stars, s.requires.waiting_len), omega (arith, items-most _ s.requires.ready.homing.valid, s.requires.waiting_len));
      waiting_value = refl;
    }

pub overflow_mul-pages : goal.overflow_mul-pages
overflow_mul-pages c = omega (arith, items-most _ c.requires.ready.homing.valid)

pub fetch-requires : goal.fetch-requires
fetch-requires c =
    let s = c.before.before.before.before.before.before.before.before.before.before.before.before.before.before.before.before.before.before.before.before.before.before.before in
    let k = c.plan.auto in
    record {
      in_bounds = omega (arith, k.pool, pool-long s);
      in_bounds_2 = omega (arith, k.waiting, s.requires.waiting_len);
      in_bounds_3 = omega (arith, s.requires.poolowners_len);
    }

pub compare-requires : goal.compare-requires
compare-requires c =
    let s = c.before.before.before.before.before.before.before.before.before.before.before.before.before.before.before.before.before.before.before.before.before.before.before.before.before.before.before.before.before.before.before in
    let l = limits _ s.requires.ready.homing.valid in
    let k = c.plan.auto in
    let n = c.fetch.auto in record {
      pages_in_bounds = (omega (arith, s.requires.ready.sized.of_separators), omega (arith, l.pages_most, k.planned));
      places_in_bounds = (omega (arith, s.requires.ready.sized.of_numbers), omega (arith, n.pool, k.pool, pool-long s));
      places_in_bounds_2 = (omega (arith, s.requires.ready.sized.of_words_lem), omega (arith, n.waiting, k.waiting, s.requires.waiting_len));
      places_in_bounds_3 = (omega (arith, s.requires.ready.sized.of_owners), omega (arith, n.poolowners, s.requires.poolowners_len));
    }

pub returns : goal.returns
returns c =
    let s = c.before.before.before.before.before.before.before.before.before.before.before.before.before.before.before.before.before.before.before.before.before.before.before.before.before.before.before.before.before.before.before.before in
    let p = s.args.geometry.parameters in
    let l = limits p s.requires.ready.homing.valid in
    let planned = c.plan in
    let fetched = c.fetch in record {
      place_value = c.compare.ensures.place_value
          ∙ spot_ruled p _ (file s) s.requires.ready.homing.valid s.requires.ready.homing.growth s.requires.ready.sized s.requires.pages_value _ s.requires.pool_value _ _ _ _ _ _ _
          (planned-ruled p _ (file s) s.requires.ready.homing.valid s.requires.ready.homing.growth s.requires.ready.sized s.requires.pages_value _ s.requires.pool_value _ _ _ _ _ l.pages_most planned.ensures)
          (planned.auto.pool ∙ pool-long s)
          (planned.auto.waiting ∙ s.requires.waiting_len)
          s.requires.poolowners_len
          (omega (arith, l.pages_most, planned.auto.planned))
          fetched.ensures.pool_after
          fetched.ensures.waiting_after
          fetched.ensures.poolowners_after;
      place_le_places = c.compare.ensures.place_le_places;
    }
