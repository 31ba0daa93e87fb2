-- The words stand for the page's stars and the new one; all stay.
use mathlib.Core.Path.{◌≡◌, refl, ◌∙◌}
use Prim.Native.Nat.{ℕ, ◌+◌, ◌*◌, ◌≤◌, ◌<◌}
use native.Mathlib.Omega.{arith}
use lib.ListN.{length, length-set}
use Rattle.hashing.specs.Geometry.{multiplier_of}
use Rattle.hashing.proofs.Bounds.{Limits, limits}
use Rattle.hashing.proofs.Homes.{home-pages}
use Rattle.pages.proofs.Parts.{page-fits}
use Rattle.placement.specs.Hash.{lent}
use Rattle.entry_reach.proofs.Reached.{some-items}
use Rattle.entry_reach.specs.Pushing.{page_words}
use Rattle.entry_cascade.proofs.Loading.{zeros-below, page-few, loaded-long, loaded-below}
use Rattle.entry_reach.proofs.Pushed.{small, few, page-inside, new-packed}
use Rattle.entry_cascade.proofs.Filled.{sound, last_empty, stars-loaded, fill_reach, plans-fill}
use Rattle.entry_cascade.proofs.filling.fill_page.Goals as goal

-- the page lies within the lent lists
pub overflow_mul-at : goal.overflow_mul-at
overflow_mul-at c =
    let inside : c.args.page < c.args.geometry.parameters.pages = page-inside c.args.geometry.parameters c.args.geometry.growth (lent c.args.separators.now c.args.numbers.now c.args.words.now c.args.owners.now) c.args.number c.args.page c.requires.enters.ready.homing.valid c.requires.enters.ready.sized c.requires.enters.number c.requires.enters.unheld c.requires.enters.here in
    record { fits = omega (arith, page-few c.args.geometry.parameters c.args.geometry.growth (lent c.args.separators.now c.args.numbers.now c.args.words.now c.args.owners.now) c.requires.enters.ready.homing.valid c.requires.enters.ready.sized c.args.page inside) }

pub load-value-requires : goal.load-value-requires
load-value-requires c =
    let bounds : Limits c.args.geometry.parameters = limits c.args.geometry.parameters c.requires.enters.ready.homing.valid in
    let inside : c.args.page < c.args.geometry.parameters.pages = page-inside c.args.geometry.parameters c.args.geometry.growth (lent c.args.separators.now c.args.numbers.now c.args.words.now c.args.owners.now) c.args.number c.args.page c.requires.enters.ready.homing.valid c.requires.enters.ready.sized c.requires.enters.number c.requires.enters.unheld c.requires.enters.here in
    let fits : (n : ℕ) → n ≡ c.args.geometry.parameters.pages * c.args.geometry.parameters.places → c.args.page * c.args.geometry.parameters.places + c.args.geometry.parameters.places ≤ n = λ n e. page-fits _ _ _ inside e in
    let sized = c.requires.enters.ready.sized in
    record {
      places_bound = bounds.places_most;
      places_in_bounds = fits _ sized.of_numbers;
      places_in_bounds_2 = fits _ sized.of_words_lem;
      places_in_bounds_3 = fits _ sized.of_owners;
    }

pub pack-requires : goal.pack-requires
pack-requires c =
    let bounds : Limits c.args.geometry.parameters = limits c.args.geometry.parameters c.requires.enters.ready.homing.valid in
    record {
      home_bound = omega (arith, c.requires.enters.homed, home-pages (multiplier_of c.args.geometry.parameters) c.args.geometry.parameters c.args.geometry.growth c.args.number c.requires.enters.ready.homing.valid c.requires.enters.ready.homing.growth, bounds.pages_most);
      number_bound = small c.args.geometry.parameters c.args.geometry.growth (lent c.args.separators.now c.args.numbers.now c.args.words.now c.args.owners.now) c.args.number c.args.page c.requires.enters.ready.homing.valid c.requires.enters.ready.sized c.requires.enters.number c.requires.enters.unheld c.requires.enters.here;
      source_bound = few c.args.geometry.parameters c.args.geometry.growth (lent c.args.separators.now c.args.numbers.now c.args.words.now c.args.owners.now) c.args.number c.args.page c.requires.enters.ready.homing.valid c.requires.enters.ready.sized c.requires.enters.number c.requires.enters.unheld c.requires.enters.here;
    }

pub bounds-waiting-0 : goal.bounds-waiting-0
bounds-waiting-0 c =
    let items : 0 < length c.args.waiting.now = omega (arith, c.requires.pool_len.1, some-items c.args.geometry.parameters c.args.geometry.growth c.requires.enters.ready.homing.valid c.requires.enters.ready.homing.growth c.args.number) in
    omega (arith, items)

pub append-reach-requires : goal.append-reach-requires
append-reach-requires c =
    let bounds : Limits c.args.geometry.parameters = limits c.args.geometry.parameters c.requires.enters.ready.homing.valid in
    let inside : c.args.page < c.args.geometry.parameters.pages = page-inside c.args.geometry.parameters c.args.geometry.growth (lent c.args.separators.now c.args.numbers.now c.args.words.now c.args.owners.now) c.args.number c.args.page c.requires.enters.ready.homing.valid c.requires.enters.ready.sized c.requires.enters.number c.requires.enters.unheld c.requires.enters.here in
    let fits : (n : ℕ) → n ≡ c.args.geometry.parameters.pages * c.args.geometry.parameters.places → c.args.page * c.args.geometry.parameters.places + c.args.geometry.parameters.places ≤ n = λ n e. page-fits _ _ _ inside e in
    let room : length (page_words c.args.geometry.parameters c.args.geometry.growth (lent c.args.separators.now c.args.numbers.now c.args.words.now c.args.owners.now) c.args.page) < c.args.geometry.parameters.places = last_empty c.args.geometry.parameters c.args.geometry.growth (lent c.args.separators.now c.args.numbers.now c.args.words.now c.args.owners.now) c.args.number c.args.page c.requires.enters.ready.homing.valid c.requires.enters.ready.sized c.requires.enters.number c.requires.enters.unheld c.requires.enters.here c.requires.places_value in
    let p = c.args.geometry.parameters in
    let g = c.args.geometry.growth in
    let l = c.load-value in
    let e = c.requires.enters in record {
      places_bound = (bounds.places_most, page-few p g (lent c.args.separators.now c.args.numbers.now c.args.words.now c.args.owners.now) e.ready.homing.valid e.ready.sized c.args.page inside);
      places_in_bounds = (loaded-long p g (lent c.args.separators.now c.args.numbers.now c.args.words.now c.args.owners.now) e.ready.homing.valid e.ready.sized c.args.page inside l.result l.ensures, bounds.places_most);
      numbers_value = (
        loaded-below p g (lent c.args.separators.now c.args.numbers.now c.args.words.now c.args.owners.now) e.ready.homing.valid e.ready.sized c.args.page inside l.result l.ensures
            (sound p g (lent c.args.separators.now c.args.numbers.now c.args.words.now c.args.owners.now) c.args.number c.args.page e.ready.homing.valid e.ready.sized e.number e.unheld e.here),
        zeros-below p.places bounds.places_most,
      );
      numbers_in_bounds = rw (length-set c.args.waiting.now 0 c.pack.result)
          (omega (arith, room, stars-loaded p g (lent c.args.separators.now c.args.numbers.now c.args.words.now c.args.owners.now) c.args.number c.args.page e.ready.homing.valid e.ready.sized e.number e.unheld e.here room l.result l.ensures, fits _ c.requires.pool_len.1));
    }

-- from the words on
pub keep_all-requires : goal.keep_all-requires
keep_all-requires c =
    let bounds : Limits c.args.geometry.parameters = limits c.args.geometry.parameters c.requires.enters.ready.homing.valid in
    let inside : c.args.page < c.args.geometry.parameters.pages = page-inside c.args.geometry.parameters c.args.geometry.growth (lent c.args.separators.now c.args.numbers.now c.args.words.now c.args.owners.now) c.args.number c.args.page c.requires.enters.ready.homing.valid c.requires.enters.ready.sized c.requires.enters.number c.requires.enters.unheld c.requires.enters.here in
    let fits : (n : ℕ) → n ≡ c.args.geometry.parameters.pages * c.args.geometry.parameters.places → c.args.page * c.args.geometry.parameters.places + c.args.geometry.parameters.places ≤ n = λ n e. page-fits _ _ _ inside e in
    let room : length (page_words c.args.geometry.parameters c.args.geometry.growth (lent c.args.separators.now c.args.numbers.now c.args.words.now c.args.owners.now) c.args.page) < c.args.geometry.parameters.places = last_empty c.args.geometry.parameters c.args.geometry.growth (lent c.args.separators.now c.args.numbers.now c.args.words.now c.args.owners.now) c.args.number c.args.page c.requires.enters.ready.homing.valid c.requires.enters.ready.sized c.requires.enters.number c.requires.enters.unheld c.requires.enters.here c.requires.places_value in
    let reach-most : c.append-reach.result ≤ c.args.geometry.parameters.places = let e = c.requires.enters in let l = c.load-value in fill_reach c.args.geometry.parameters c.args.geometry.growth (lent c.args.separators.now c.args.numbers.now c.args.words.now c.args.owners.now) c.args.number c.args.page e.ready.homing.valid e.ready.sized e.number e.unheld e.here room l.result l.ensures c.append-reach.result c.append-reach.ensures.value in
    let waiting_kept : length c.append-reach.new.waiting ≡ length c.args.waiting.now = c.append-reach.auto.waiting ∙ length-set c.args.waiting.now 0 c.pack.result in
    record {
      from_le_reach = (omega arith, omega (arith, waiting_kept, reach-most, fits _ c.requires.pool_len.1));
      slots_len = (refl, omega (arith, reach-most, bounds.places_most));
    }

pub bounds-separators-page : goal.bounds-separators-page
bounds-separators-page c =
    let inside : c.args.page < c.args.geometry.parameters.pages = page-inside c.args.geometry.parameters c.args.geometry.growth (lent c.args.separators.now c.args.numbers.now c.args.words.now c.args.owners.now) c.args.number c.args.page c.requires.enters.ready.homing.valid c.requires.enters.ready.sized c.requires.enters.number c.requires.enters.unheld c.requires.enters.here in
    omega (arith, inside, c.requires.enters.ready.sized.of_separators)

pub bounds-planned-page : goal.bounds-planned-page
bounds-planned-page c =
    let inside : c.args.page < c.args.geometry.parameters.pages = page-inside c.args.geometry.parameters c.args.geometry.growth (lent c.args.separators.now c.args.numbers.now c.args.words.now c.args.owners.now) c.args.number c.args.page c.requires.enters.ready.homing.valid c.requires.enters.ready.sized c.requires.enters.number c.requires.enters.unheld c.requires.enters.here in
    omega (arith, inside, c.requires.pages_in_bounds)

pub store_sources-requires : goal.store_sources-requires
store_sources-requires c =
    let bounds : Limits c.args.geometry.parameters = limits c.args.geometry.parameters c.requires.enters.ready.homing.valid in
    let inside : c.args.page < c.args.geometry.parameters.pages = page-inside c.args.geometry.parameters c.args.geometry.growth (lent c.args.separators.now c.args.numbers.now c.args.words.now c.args.owners.now) c.args.number c.args.page c.requires.enters.ready.homing.valid c.requires.enters.ready.sized c.requires.enters.number c.requires.enters.unheld c.requires.enters.here in
    let fits : (n : ℕ) → n ≡ c.args.geometry.parameters.pages * c.args.geometry.parameters.places → c.args.page * c.args.geometry.parameters.places + c.args.geometry.parameters.places ≤ n = λ n e. page-fits _ _ _ inside e in
    let room : length (page_words c.args.geometry.parameters c.args.geometry.growth (lent c.args.separators.now c.args.numbers.now c.args.words.now c.args.owners.now) c.args.page) < c.args.geometry.parameters.places = last_empty c.args.geometry.parameters c.args.geometry.growth (lent c.args.separators.now c.args.numbers.now c.args.words.now c.args.owners.now) c.args.number c.args.page c.requires.enters.ready.homing.valid c.requires.enters.ready.sized c.requires.enters.number c.requires.enters.unheld c.requires.enters.here c.requires.places_value in
    let reach-most : c.append-reach.result ≤ c.args.geometry.parameters.places = let e = c.requires.enters in let l = c.load-value in fill_reach c.args.geometry.parameters c.args.geometry.growth (lent c.args.separators.now c.args.numbers.now c.args.words.now c.args.owners.now) c.args.number c.args.page e.ready.homing.valid e.ready.sized e.number e.unheld e.here room l.result l.ensures c.append-reach.result c.append-reach.ensures.value in
    record {
      places_in_bounds = (fits _ c.requires.pool_len.0, bounds.places_most);
      kept_le_places = (reach-most, omega (arith, reach-most, bounds.places_most, c.keep_all.ensures.slots_len_2));
    }

pub shape_of-waiting : goal.shape_of-waiting
shape_of-waiting c =
    let waiting_kept : length c.append-reach.new.waiting ≡ length c.args.waiting.now = c.append-reach.auto.waiting ∙ length-set c.args.waiting.now 0 c.pack.result in
    waiting_kept

pub returns : goal.returns
returns c =
    let items : 0 < length c.args.waiting.now = omega (arith, c.requires.pool_len.1, some-items c.args.geometry.parameters c.args.geometry.growth c.requires.enters.ready.homing.valid c.requires.enters.ready.homing.growth c.args.number) in
    let room : length (page_words c.args.geometry.parameters c.args.geometry.growth (lent c.args.separators.now c.args.numbers.now c.args.words.now c.args.owners.now) c.args.page) < c.args.geometry.parameters.places = last_empty c.args.geometry.parameters c.args.geometry.growth (lent c.args.separators.now c.args.numbers.now c.args.words.now c.args.owners.now) c.args.number c.args.page c.requires.enters.ready.homing.valid c.requires.enters.ready.sized c.requires.enters.number c.requires.enters.unheld c.requires.enters.here c.requires.places_value in
    let e = c.requires.enters in
    let p = c.args.geometry.parameters in
    let g = c.args.geometry.growth in
    let l = c.load-value in
    plans-fill p g (lent c.args.separators.now c.args.numbers.now c.args.words.now c.args.owners.now) c.args.number c.args.page e.ready.homing.valid e.ready.sized e.number e.unheld e.here room l.result l.ensures
    c.args.pool.now c.args.planned.now c.store_sources.new.pool c.args.waiting.now c.append-reach.new.waiting c.keep_all.new.slots c.pack.result c.append-reach.result
    c.requires.pool_len.0 c.requires.pages_in_bounds items
    (c.pack.ensures ∙ new-packed p g (lent c.args.separators.now c.args.numbers.now c.args.words.now c.args.owners.now) c.args.number c.args.page e.ready.homing.valid e.ready.sized e.number e.unheld e.here c.args.home e.homed)
    c.append-reach.ensures.waiting_after c.keep_all.ensures.slots_after c.store_sources.ensures
