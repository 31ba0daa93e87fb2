-- `own_stars::entering::enter_one` meets its contract.
use mathlib.Core.Path.{◌≡◌, sym, ◌∙◌}
use Prim.Native.Nat.{ℕ, ◌+◌, ◌*◌, ◌≤◌, ◌<◌}
use native.Mathlib.Nat.{le_refl}
use native.Mathlib.Omega.{arith}
use borrow.Author.Rules.{rules}
use Rattle.hashing.proofs.Bounds.{limits}
use Rattle.pages.proofs.Parts.{page-fits}
use Rattle.placement.specs.Rule.{star_with}
use Rattle.placement.specs.Hash.{lent}
use Rattle.reach.proofs.Surveyed.{known-none}
use Rattle.entry_reach.specs.Entry.{Unheld}
use Rattle.own_stars.proofs.Laying.{laid-unheld, laid-known, overflows_on, unsound-on, entered_on, entered-not}
use Rattle.own_stars.proofs.Placing.{found_at, found-low}
use Rattle.own_stars.proofs.entering.enter_one.Goals as goal

pub overflow_add-next : goal.overflow_add-next
overflow_add-next c =
    let unheld : Unheld c.args.geometry.parameters c.args.geometry.growth (lent c.args.separators.now c.args.numbers.now c.args.words.now c.args.owners.now) c.args.number = let e = c.requires.enterable in laid-unheld _ _ (lent c.args.separators.now c.args.numbers.now c.args.words.now c.args.owners.now) e.stars c.requires.ready.homing.valid c.requires.ready.homing.growth e.laid_out c.args.number e.number e.absent in
    let inside : c.named_from-page.result < c.args.geometry.parameters.pages = omega (arith, c.named_from-page.ensures, unheld.named) in
    omega (arith, inside, (limits _ c.requires.ready.homing.valid).pages_most)

pub survey_pages-requires : goal.survey_pages-requires
survey_pages-requires c =
    let unheld : Unheld c.args.geometry.parameters c.args.geometry.growth (lent c.args.separators.now c.args.numbers.now c.args.words.now c.args.owners.now) c.args.number = let e = c.requires.enterable in laid-unheld _ _ (lent c.args.separators.now c.args.numbers.now c.args.words.now c.args.owners.now) e.stars c.requires.ready.homing.valid c.requires.ready.homing.growth e.laid_out c.args.number e.number e.absent in
    let inside : c.named_from-page.result < c.args.geometry.parameters.pages = omega (arith, c.named_from-page.ensures, unheld.named) in
    record {
      ready = c.requires.ready;
      homes_len = c.requires.pooled.of_numbers;
      from_le_stop = omega arith;
      stop_le_pages = omega (arith, inside);
      known = known-none _ _ _ _ _ (le_refl _);
    }

pub load-value-requires : goal.load-value-requires
load-value-requires c =
    let unheld : Unheld c.args.geometry.parameters c.args.geometry.growth (lent c.args.separators.now c.args.numbers.now c.args.words.now c.args.owners.now) c.args.number = let e = c.requires.enterable in laid-unheld _ _ (lent c.args.separators.now c.args.numbers.now c.args.words.now c.args.owners.now) e.stars c.requires.ready.homing.valid c.requires.ready.homing.growth e.laid_out c.args.number e.number e.absent in
    let inside : c.named_from-page.result < c.args.geometry.parameters.pages = omega (arith, c.named_from-page.ensures, unheld.named) in
    let fits : (n : ℕ) → n ≡ c.args.geometry.parameters.pages * c.args.geometry.parameters.places → c.named_from-page.result * c.args.geometry.parameters.places + c.args.geometry.parameters.places ≤ n = λ n e. page-fits _ _ _ inside e in
    record {
      places_bound = (limits _ c.requires.ready.homing.valid).places_most;
      places_in_bounds = fits _ c.requires.ready.sized.of_numbers;
      places_in_bounds_2 = fits _ c.requires.ready.sized.of_words_lem;
      places_in_bounds_3 = fits _ c.requires.ready.sized.of_owners;
    }

pub search-found-requires : goal.search-found-requires
search-found-requires c =
    ((limits _ c.requires.ready.homing.valid).places_most, search (rules, c.load-value.type_inv))

pub overflow_cast-star : goal.overflow_cast-star
overflow_cast-star c =
    let unheld : Unheld c.args.geometry.parameters c.args.geometry.growth (lent c.args.separators.now c.args.numbers.now c.args.words.now c.args.owners.now) c.args.number = let e = c.requires.enterable in laid-unheld _ _ (lent c.args.separators.now c.args.numbers.now c.args.words.now c.args.owners.now) e.stars c.requires.ready.homing.valid c.requires.ready.homing.growth e.laid_out c.args.number e.number e.absent in
    let inside : c.named_from-page.result < c.args.geometry.parameters.pages = omega (arith, c.named_from-page.ensures, unheld.named) in
    let fits : (n : ℕ) → n ≡ c.args.geometry.parameters.pages * c.args.geometry.parameters.places → c.named_from-page.result * c.args.geometry.parameters.places + c.args.geometry.parameters.places ≤ n = λ n e. page-fits _ _ _ inside e in
    omega (arith, found-low _ _ _ _ _ _ _ _ c.load-value.ensures c.search-found.ensures (fits _ c.requires.ready.sized.of_numbers) (limits _ c.requires.ready.homing.valid).places_most)

pub enter_star-requires : goal.enter_star-requires
enter_star-requires c =
    let unheld : Unheld c.args.geometry.parameters c.args.geometry.growth (lent c.args.separators.now c.args.numbers.now c.args.words.now c.args.owners.now) c.args.number = let e = c.requires.enterable in laid-unheld _ _ (lent c.args.separators.now c.args.numbers.now c.args.words.now c.args.owners.now) e.stars c.requires.ready.homing.valid c.requires.ready.homing.growth e.laid_out c.args.number e.number e.absent in
    let inside : c.named_from-page.result < c.args.geometry.parameters.pages = omega (arith, c.named_from-page.ensures, unheld.named) in
    let fits : (n : ℕ) → n ≡ c.args.geometry.parameters.pages * c.args.geometry.parameters.places → c.named_from-page.result * c.args.geometry.parameters.places + c.args.geometry.parameters.places ≤ n = λ n e. page-fits _ _ _ inside e in
    let e = c.requires.enterable in
    let surveyed = c.survey_pages in record {
      enters = record { ready = c.requires.ready; number = e.number; unheld = unheld; homed = c.home-home.ensures; here = c.named_from-page.ensures };
      pooled = record { of_numbers = surveyed.auto.homes ∙ c.requires.pooled.of_numbers; of_words_lem = c.requires.pooled.of_words_lem; of_owners = c.requires.pooled.of_owners };
      known = laid-known _ _ (lent c.args.separators.now c.args.numbers.now c.args.words.now c.args.owners.now) e.stars c.requires.ready.homing.valid c.requires.ready.homing.growth e.laid_out _ _ _ _ c.requires.pooled.of_numbers inside surveyed.ensures.value surveyed.ensures.homes_after;
      place_value = found_at _ _ _ _ _ _ _ _ c.load-value.ensures c.search-found.ensures (fits _ c.requires.ready.sized.of_numbers);
    }

pub shape_of-pool-in-On : goal.shape_of-pool-in-On
shape_of-pool-in-On c = c.enter_star.auto.pool ∙ c.survey_pages.auto.homes

pub returns-in-On : goal.returns-in-On
returns-in-On c t laid absent =
    let e = c.requires.enterable in
    let done = c.enter_star.ensures in
    entered_on _ _ (lent c.args.separators.now c.args.numbers.now c.args.words.now c.args.owners.now) t c.requires.ready.homing.valid c.requires.ready.homing.growth laid (star_with c.args.number c.args.word c.args.owner) e.number e.valid absent _ _ done.value done.owners_value _ c.in-On.is

pub shape_of-pool-in-Unsound : goal.shape_of-pool-in-Unsound
shape_of-pool-in-Unsound c = c.enter_star.auto.pool ∙ c.survey_pages.auto.homes

pub returns-in-Unsound : goal.returns-in-Unsound
returns-in-Unsound c t laid absent =
    let e = c.requires.enterable in
    let done = c.enter_star.ensures in
    entered-not _ _ (lent c.args.separators.now c.args.numbers.now c.args.words.now c.args.owners.now) t c.requires.ready.homing.valid c.requires.ready.homing.growth laid (star_with c.args.number c.args.word c.args.owner) e.number e.valid absent _ _ done.value done.owners_value (λ page d. unsound-on _ page (sym c.in-Unsound.is ∙ d))

pub shape_of-pool-in-Overflows : goal.shape_of-pool-in-Overflows
shape_of-pool-in-Overflows c = c.enter_star.auto.pool ∙ c.survey_pages.auto.homes

pub returns-in-Overflows : goal.returns-in-Overflows
returns-in-Overflows c t laid absent =
    let e = c.requires.enterable in
    let done = c.enter_star.ensures in
    entered-not _ _ (lent c.args.separators.now c.args.numbers.now c.args.words.now c.args.owners.now) t c.requires.ready.homing.valid c.requires.ready.homing.growth laid (star_with c.args.number c.args.word c.args.owner) e.number e.valid absent _ _ done.value done.owners_value (λ page d. overflows_on page (sym c.in-Overflows.is ∙ d))
