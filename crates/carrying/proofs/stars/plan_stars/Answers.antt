-- Keys, words in groups, pages.
use mathlib.Core.Path.{◌∙◌}
use Prim.Native.Nat.{◌≤◌, ◌*◌}
use lib.ListN.{length}
use native.Mathlib.Nat.{mul-le-mul}
use native.Mathlib.Omega.{arith}
use Rattle.hashing.proofs.Bounds.{limits}
use Rattle.carrying.proofs.Placing.{planned-whole, planned-sorted, stars-keyed, stars-grouped, stars-settleable}
use Rattle.carrying.proofs.stars.plan_stars.Goals as goal

-- the keys fit the pool
-- .. and so do the words
pub key_stars-stars-requires : goal.key_stars-stars-requires
key_stars-stars-requires c =
    record {
      homing = c.requires.homing;
      shift_bound = c.requires.shift_bound;
      numbers_len_bound = c.requires.numbers_len_bound;
      numbers_in_bounds = (c.requires.numbers_in_bounds, omega (arith, c.requires.pool_len, c.requires.waiting_len, c.requires.numbers_in_bounds));
    }

pub gather_stars-requires : goal.gather_stars-requires
gather_stars-requires c =
    let inside : c.key_stars-stars.result ≤ length c.key_stars-stars.new.keys = omega (arith, c.key_stars-stars.ensures.value, c.key_stars-stars.auto.keys, c.requires.numbers_in_bounds) in
    let wide : c.key_stars-stars.result ≤ length c.key_stars-stars.new.listed = omega (arith, inside, c.key_stars-stars.auto.keys, c.key_stars-stars.auto.listed, c.requires.pool_len, c.requires.waiting_len) in
    record {
      keyed = stars-keyed c.args.geometry c.requires.homing.valid c.requires.homing.growth c.args.numbers.now c.requires.numbers_len_bound.0 c.requires.numbers_len_bound.1 c.args.shift _ _ c.key_stars-stars.ensures.value c.key_stars-stars.ensures.keys_after inside;
      pages_in_bounds = ((limits _ c.requires.homing.valid).pages_most, wide);
      numbers_value = c.requires.numbers_len_bound.1;
    }

pub place_all-requires : goal.place_all-requires
place_all-requires c =
    let inside : c.key_stars-stars.result ≤ length c.key_stars-stars.new.keys = omega (arith, c.key_stars-stars.ensures.value, c.key_stars-stars.auto.keys, c.requires.numbers_in_bounds) in
    let items : c.args.geometry.parameters.pages * c.args.geometry.parameters.places ≤ 32768 = let l = limits c.args.geometry.parameters c.requires.homing.valid in mul-le-mul l.pages_most l.places_most in
    let wide : c.key_stars-stars.result ≤ length c.key_stars-stars.new.listed = omega (arith, inside, c.key_stars-stars.auto.keys, c.key_stars-stars.auto.listed, c.requires.pool_len, c.requires.waiting_len) in
    stars-settleable c.args.geometry c.requires.homing.valid c.requires.homing.growth c.args.numbers.now c.requires.numbers_len_bound.0 c.requires.numbers_len_bound.1 c.args.shift _ _ c.key_stars-stars.ensures.value c.key_stars-stars.ensures.keys_after inside
    c.key_stars-stars.new.listed _ _ c.gather_stars.ensures wide c.gather_stars.auto.waiting _ _
    (omega (arith, c.key_stars-stars.auto.keys, c.requires.pool_len)) (omega (arith, c.gather_stars.auto.waiting, c.key_stars-stars.auto.listed, c.requires.waiting_len, items))
    (omega (arith, c.requires.planned_len)) (omega (arith, c.gather_stars.auto.ends))

pub shape_of-waiting : goal.shape_of-waiting
shape_of-waiting c =
    c.place_all.auto.waiting ∙ c.gather_stars.auto.waiting ∙ c.key_stars-stars.auto.listed

pub returns : goal.returns
returns c =
    let inside : c.key_stars-stars.result ≤ length c.key_stars-stars.new.keys = omega (arith, c.key_stars-stars.ensures.value, c.key_stars-stars.auto.keys, c.requires.numbers_in_bounds) in
    let wide : c.key_stars-stars.result ≤ length c.key_stars-stars.new.listed = omega (arith, inside, c.key_stars-stars.auto.keys, c.key_stars-stars.auto.listed, c.requires.pool_len, c.requires.waiting_len) in
    let L = limits c.args.geometry.parameters c.requires.homing.valid in
    planned-sorted c.args.geometry c.requires.homing.valid c.requires.homing.growth c.args.numbers.now c.requires.numbers_len_bound.0 c.requires.numbers_len_bound.1 c.args.shift _ _ c.key_stars-stars.ensures.value c.key_stars-stars.ensures.keys_after inside _ _ _
    (planned-whole c.args.geometry.parameters _ _ _ _ _ _ _
    (rw (stars-grouped c.args.geometry c.requires.homing.valid c.requires.homing.growth c.args.numbers.now c.requires.numbers_len_bound.0 c.requires.numbers_len_bound.1 c.args.shift _ _ c.key_stars-stars.ensures.value c.key_stars-stars.ensures.keys_after inside
    c.key_stars-stars.new.listed _ _ c.gather_stars.ensures wide c.gather_stars.auto.waiting) at c.place_all.ensures)
    (omega (arith, c.key_stars-stars.auto.keys, c.requires.pool_len)) (omega (arith, L.pages_most, c.requires.planned_len)))
