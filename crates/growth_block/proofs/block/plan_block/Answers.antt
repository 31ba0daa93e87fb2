use mathlib.Core.Path.{◌≡◌, refl, ◌∙◌}
use Prim.Native.Nat.{suc, ◌+◌, ◌-◌, ◌*◌, ◌≤◌, ◌<◌}
use native.Mathlib.Nat.{add-mul, mul-le-mul, mul-le-mul_right}
use native.Mathlib.Numerals.{add-one}
use native.Mathlib.Omega.{arith}
use lib.ListN.{length}
use Rattle.hashing.proofs.Bounds.{limits}
use Rattle.page_separator.specs.Lists.{all}
use Rattle.placement.specs.Shape.{Sized}
use Rattle.placement.specs.Hash.{lent}
use Rattle.removal_reach.specs.Stretch.{StretchReady}
use Rattle.removal_reach.proofs.Items.{plannable-stretch}
use Rattle.removal_reach.proofs.Ruled.{stars-fit}
use Rattle.growth_in_place.proofs.Joiners.{length-homes}
use Rattle.growth_block.specs.Block.{BlockAt}
use Rattle.growth_block.proofs.Starting.{block_at, ends-inside}
use Rattle.growth_block.proofs.Planned.{upto-within}
use Rattle.growth_block.proofs.block.plan_block.Goals as goal

-- the numbers alone, as a file
pub page_behind-stop-requires : goal.page_behind-stop-requires
page_behind-stop-requires c =
    let low : c.args.step < length c.args.separators.now = omega (arith, c.requires.step_bound) in
    let high : c.stretch_end-last.result < length c.args.separators.now =
    ends-inside c.args.separators.now c.top_of-top.result c.args.step c.stretch_end-last.result low c.stretch_end-last.ensures in
    omega (arith, high, c.requires.step_bound.1)

pub overflow_sub-count : goal.overflow_sub-count
overflow_sub-count c =
    let found : BlockAt c.args.geometry.parameters c.args.separators.now c.args.step c.block_start-lo.result c.stretch_end-last.result c.page_behind-stop.result = block_at _ _ _ _ _ _ _ c.requires.step_bound.1 c.requires.step_bound.0 c.top_of-top.ensures c.block_start-lo.ensures c.stretch_end-last.ensures c.page_behind-stop.ensures in
    let low : c.block_start-lo.result ≤ c.page_behind-stop.result = omega (arith, found.starts.low, found.past) in
    low

pub overflow_add-count : goal.overflow_add-count
overflow_add-count c =
    let found : BlockAt c.args.geometry.parameters c.args.separators.now c.args.step c.block_start-lo.result c.stretch_end-last.result c.page_behind-stop.result = block_at _ _ _ _ _ _ _ c.requires.step_bound.1 c.requires.step_bound.0 c.top_of-top.ensures c.block_start-lo.ensures c.stretch_end-last.ensures c.page_behind-stop.ensures in
    omega (arith, found.inside, (limits _ c.requires.homing.valid).pages_most)

pub overflow_mul-lo : goal.overflow_mul-lo
overflow_mul-lo c =
    let found : BlockAt c.args.geometry.parameters c.args.separators.now c.args.step c.block_start-lo.result c.stretch_end-last.result c.page_behind-stop.result = block_at _ _ _ _ _ _ _ c.requires.step_bound.1 c.requires.step_bound.0 c.top_of-top.ensures c.block_start-lo.ensures c.stretch_end-last.ensures c.page_behind-stop.ensures in
    let low : c.block_start-lo.result ≤ c.page_behind-stop.result = omega (arith, found.starts.low, found.past) in
    let count : c.block_start-lo.result + suc (c.page_behind-stop.result - c.block_start-lo.result) ≤ c.args.geometry.parameters.pages = omega (arith, low, found.inside) in
    let fits : let b = c.args.geometry.parameters.places in let lo = c.block_start-lo.result in lo * b + suc (c.page_behind-stop.result - lo) * b ≤ c.args.geometry.parameters.pages * b = let b = c.args.geometry.parameters.places in let lo = c.block_start-lo.result in rw (← add-mul lo (suc (c.page_behind-stop.result - lo)) b) (mul-le-mul_right b count) in
    let most : c.args.geometry.parameters.pages * c.args.geometry.parameters.places ≤ 32768 = omega (arith, mul-le-mul (limits _ c.requires.homing.valid).pages_most (limits _ c.requires.homing.valid).places_most) in
    record { fits = omega (arith, fits, most) }

pub overflow_mul-count : goal.overflow_mul-count
overflow_mul-count c =
    let found : BlockAt c.args.geometry.parameters c.args.separators.now c.args.step c.block_start-lo.result c.stretch_end-last.result c.page_behind-stop.result = block_at _ _ _ _ _ _ _ c.requires.step_bound.1 c.requires.step_bound.0 c.top_of-top.ensures c.block_start-lo.ensures c.stretch_end-last.ensures c.page_behind-stop.ensures in
    let low : c.block_start-lo.result ≤ c.page_behind-stop.result = omega (arith, found.starts.low, found.past) in
    let count : c.block_start-lo.result + suc (c.page_behind-stop.result - c.block_start-lo.result) ≤ c.args.geometry.parameters.pages = omega (arith, low, found.inside) in
    let fits : let b = c.args.geometry.parameters.places in let lo = c.block_start-lo.result in lo * b + suc (c.page_behind-stop.result - lo) * b ≤ c.args.geometry.parameters.pages * b = let b = c.args.geometry.parameters.places in let lo = c.block_start-lo.result in rw (← add-mul lo (suc (c.page_behind-stop.result - lo)) b) (mul-le-mul_right b count) in
    let most : c.args.geometry.parameters.pages * c.args.geometry.parameters.places ≤ 32768 = omega (arith, mul-le-mul (limits _ c.requires.homing.valid).pages_most (limits _ c.requires.homing.valid).places_most) in
    record { fits = rw (add-one (c.page_behind-stop.result - c.block_start-lo.result)) (omega (arith, fits, most)) }

pub overflow_cast-stop : goal.overflow_cast-stop
overflow_cast-stop c =
    let found : BlockAt c.args.geometry.parameters c.args.separators.now c.args.step c.block_start-lo.result c.stretch_end-last.result c.page_behind-stop.result = block_at _ _ _ _ _ _ _ c.requires.step_bound.1 c.requires.step_bound.0 c.top_of-top.ensures c.block_start-lo.ensures c.stretch_end-last.ensures c.page_behind-stop.ensures in
    omega (arith, found.inside, (limits _ c.requires.homing.valid).pages_most)

pub rehome_items-requires : goal.rehome_items-requires
rehome_items-requires c =
    let found : BlockAt c.args.geometry.parameters c.args.separators.now c.args.step c.block_start-lo.result c.stretch_end-last.result c.page_behind-stop.result = block_at _ _ _ _ _ _ _ c.requires.step_bound.1 c.requires.step_bound.0 c.top_of-top.ensures c.block_start-lo.ensures c.stretch_end-last.ensures c.page_behind-stop.ensures in
    let low : c.block_start-lo.result ≤ c.page_behind-stop.result = omega (arith, found.starts.low, found.past) in
    let count : c.block_start-lo.result + suc (c.page_behind-stop.result - c.block_start-lo.result) ≤ c.args.geometry.parameters.pages = omega (arith, low, found.inside) in
    let fits : let b = c.args.geometry.parameters.places in let lo = c.block_start-lo.result in lo * b + suc (c.page_behind-stop.result - lo) * b ≤ c.args.geometry.parameters.pages * b = let b = c.args.geometry.parameters.places in let lo = c.block_start-lo.result in rw (← add-mul lo (suc (c.page_behind-stop.result - lo)) b) (mul-le-mul_right b count) in
    record {
      homing = c.requires.homing;
      count_in_bounds = rw (add-one (c.page_behind-stop.result - c.block_start-lo.result)) (omega (arith, fits, c.requires.numbers_len.0));
      homes_value = c.requires.pool_value;
    }

pub plan-requires : goal.plan-requires
unfolding all
plan-requires c =
    let found : BlockAt c.args.geometry.parameters c.args.separators.now c.args.step c.block_start-lo.result c.stretch_end-last.result c.page_behind-stop.result = block_at _ _ _ _ _ _ _ c.requires.step_bound.1 c.requires.step_bound.0 c.top_of-top.ensures c.block_start-lo.ensures c.stretch_end-last.ensures c.page_behind-stop.ensures in
    let low : c.block_start-lo.result ≤ c.page_behind-stop.result = omega (arith, found.starts.low, found.past) in
    let count : c.block_start-lo.result + suc (c.page_behind-stop.result - c.block_start-lo.result) ≤ c.args.geometry.parameters.pages = omega (arith, low, found.inside) in
    let size : length c.args.pool.now ≡ c.args.geometry.parameters.pages * c.args.geometry.parameters.places = length-homes _ _ _ _ c.requires.pool_value ∙ c.requires.numbers_len.0 in
    let sized : Sized c.args.geometry.parameters.places c.args.geometry.parameters.pages (lent c.args.separators.now c.args.numbers.now c.args.numbers.now c.args.numbers.now) = record { of_separators = c.requires.step_bound.1; of_numbers = c.requires.numbers_len.0; of_words_lem = c.requires.numbers_len.0; of_owners = c.requires.numbers_len.0 } in
    let ready : let lo = c.block_start-lo.result in StretchReady c.args.geometry.parameters lo (c.page_behind-stop.result - lo + 1) (lent c.args.separators.now c.args.numbers.now c.args.numbers.now c.args.numbers.now) c.rehome_items.new.homes c.args.waiting.now c.args.waiting.now = let lo = c.block_start-lo.result in let stop = c.page_behind-stop.result in rw (add-one (stop - lo)) (plannable-stretch _ (lent c.args.separators.now c.args.numbers.now c.args.numbers.now c.args.numbers.now) c.requires.homing.valid sized lo (suc (stop - lo)) count (omega arith) _ (c.rehome_items.auto.homes ∙ size) (c.requires.by_index lo (suc (stop - lo)) count) (upto-within _ _ _ lo stop low found.inside c.requires.numbers_len.0 _ _ size (rw (add-one (stop - lo)) at c.rehome_items.ensures)) _ _ c.requires.numbers_len.1 c.requires.numbers_len.1) in
    let L = ready in record {
      parameters_value = c.requires.homing.valid;
      count_nonzero = (L.some, (L.pages_most, omega (arith, L.separators_long, c.requires.step_bound.1, c.requires.pages_in_bounds)));
      places_in_bounds = (L.numbers_long, L.pool_long);
      numbers_value = L.valid;
      pool_value = L.within;
      numbers_in_bounds = (stars-fit _ _ _ _ _ _ _ L _, L.waiting-most);
      waiting_value = refl;
    }

pub returns : goal.returns
returns c =
    let found : BlockAt c.args.geometry.parameters c.args.separators.now c.args.step c.block_start-lo.result c.stretch_end-last.result c.page_behind-stop.result = block_at _ _ _ _ _ _ _ c.requires.step_bound.1 c.requires.step_bound.0 c.top_of-top.ensures c.block_start-lo.ensures c.stretch_end-last.ensures c.page_behind-stop.ensures in
    let y = c.plan in
    let lo = c.block_start-lo.result in
    let stop = c.page_behind-stop.result in
    record {
      lo = lo;
      last = c.stretch_end-last.result;
      stop = stop;
      block = found;
      homes = c.rehome_items.new.homes;
      homes-are = rw (add-one (stop - lo)) at c.rehome_items.ensures;
      homes-long = c.rehome_items.auto.homes;
      waiting = _;
      past_it = _;
      plan = rw (add-one (stop - lo)) at y.ensures;
    }
