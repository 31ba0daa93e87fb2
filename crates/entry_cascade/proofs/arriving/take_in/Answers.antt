-- The value tested is the page's, and its words join those that have come.
use mathlib.Core.Path.{◌≡◌, refl, sym, ap, ◌∙◌}
use mathlib.Core.Bool.{true}
use mathlib.Core.List.{List, ◌++◌}
use Prim.Native.Nat.{ℕ, ◌+◌, ◌-◌, ◌*◌, ◌≤◌}
use native.Mathlib.Omega.{arith}
use lib.ListN.{length, take}
use lib.Seq.{slice}
use borrow.Author.Rules.{rules}
use borrow.Author.Tests.{ltb-true, ltb-false}
use Rattle.hashing.proofs.Bounds.{limits}
use Rattle.pages.proofs.Parts.{page-fits}
use Rattle.placement.specs.Hash.{lent, sound_at}
use Rattle.soundness.proofs.Items.{sound-loaded}
use Rattle.page_plan.specs.Gather.{stars_in}
use Rattle.entry_reach.specs.Pushing.{page_words}
use Rattle.entry_cascade.proofs.Loading.{slice-page, stars-count, page-few, loaded-numbers, loaded-long, loaded-below, homes-long, homes-small, loaded-words, known-value}
use Rattle.entry_cascade.proofs.arriving.take_in.Goals as goal

-- the page lies within the lent lists
pub overflow_mul-at : goal.overflow_mul-at
overflow_mul-at c =
    record { fits = omega (arith, page-few c.args.geometry.parameters c.args.geometry.growth (lent c.args.separators.now c.args.numbers.now c.args.words.now c.args.owners.now) c.requires.ready.homing.valid c.requires.ready.sized c.args.page c.requires.page_lt_pages.0) }

pub load-value-requires : goal.load-value-requires
load-value-requires c =
    let inside : (n : ℕ) → n ≡ c.args.geometry.parameters.pages * c.args.geometry.parameters.places → c.args.page * c.args.geometry.parameters.places + c.args.geometry.parameters.places ≤ n = λ n e. page-fits _ _ _ c.requires.page_lt_pages.0 e in
    record {
      places_bound = (limits _ c.requires.ready.homing.valid).places_most;
      places_in_bounds = inside _ c.requires.ready.sized.of_numbers;
      places_in_bounds_2 = inside _ c.requires.ready.sized.of_words_lem;
      places_in_bounds_3 = inside _ c.requires.ready.sized.of_owners;
    }

pub test_page-requires : goal.test_page-requires
test_page-requires c =
    let page = c.load-value.type_inv in
    record {
      homing = c.requires.ready.homing;
      separators_len = (c.requires.ready.sized.of_separators, c.requires.waiting_len.1);
      page_lt_pages = c.requires.page_lt_pages.0;
      numbers_len = (search (rules, page), (search (rules, page), search (rules, page)));
      homes_len = refl;
      known_value = λ h.
          known-value c.args.geometry (lent c.args.separators.now c.args.numbers.now c.args.words.now c.args.owners.now) c.requires.ready.sized c.args.page c.requires.page_lt_pages.0 _ c.load-value.ensures c.args.pool.now (c.requires.known h);
    }

-- from the test of the page on
pub returns-then-not-test_page : goal.returns-then-not-test_page
returns-then-not-test_page c =
    let inside : (n : ℕ) → n ≡ c.args.geometry.parameters.pages * c.args.geometry.parameters.places → c.args.page * c.args.geometry.parameters.places + c.args.geometry.parameters.places ≤ n = λ n e. page-fits _ _ _ c.requires.page_lt_pages.0 e in
    let told : c.test_page.result ≡ sound_at c.args.geometry.parameters c.args.geometry.growth (lent c.args.separators.now c.args.numbers.now c.args.words.now c.args.owners.now) c.args.page = c.test_page.ensures.sound ∙ sound-loaded _ _ (lent c.args.separators.now c.args.numbers.now c.args.words.now c.args.owners.now) _ _ (inside _ c.requires.ready.sized.of_numbers) (inside _ c.requires.ready.sized.of_words_lem) (inside _ c.requires.ready.sized.of_owners) c.load-value.ensures in
    sym told ∙ c.if-not-test_page.true

-- where the page is sound
-- the page's stars, as they are counted
pub overflow_sub-waiting : goal.overflow_sub-waiting
overflow_sub-waiting c = omega (arith, c.requires.page_lt_pages.1)

pub exceeds-requires : goal.exceeds-requires
exceeds-requires c =
    let inside : (n : ℕ) → n ≡ c.args.geometry.parameters.pages * c.args.geometry.parameters.places → c.args.page * c.args.geometry.parameters.places + c.args.geometry.parameters.places ≤ n = λ n e. page-fits _ _ _ c.requires.page_lt_pages.0 e in
    inside _ c.requires.ready.sized.of_numbers

pub returns-then-exceeds : goal.returns-then-exceeds
returns-then-exceeds c =
    let inside : (n : ℕ) → n ≡ c.args.geometry.parameters.pages * c.args.geometry.parameters.places → c.args.page * c.args.geometry.parameters.places + c.args.geometry.parameters.places ≤ n = λ n e. page-fits _ _ _ c.requires.page_lt_pages.0 e in
    let told : c.test_page.result ≡ sound_at c.args.geometry.parameters c.args.geometry.growth (lent c.args.separators.now c.args.numbers.now c.args.words.now c.args.owners.now) c.args.page = c.test_page.ensures.sound ∙ sound-loaded _ _ (lent c.args.separators.now c.args.numbers.now c.args.words.now c.args.owners.now) _ _ (inside _ c.requires.ready.sized.of_numbers) (inside _ c.requires.ready.sized.of_words_lem) (inside _ c.requires.ready.sized.of_owners) c.load-value.ensures in
    let sound : sound_at c.args.geometry.parameters c.args.geometry.growth (lent c.args.separators.now c.args.numbers.now c.args.words.now c.args.owners.now) c.args.page ≡ true = sym told ∙ c.if-not-test_page.false in
    let stars : (stars_in 0 (slice (c.args.page * c.args.geometry.parameters.places) (c.args.page * c.args.geometry.parameters.places + c.args.geometry.parameters.places) c.args.numbers.now)) ≡ length (page_words c.args.geometry.parameters c.args.geometry.growth (lent c.args.separators.now c.args.numbers.now c.args.words.now c.args.owners.now) c.args.page) = ap (stars_in 0) (slice-page c.args.geometry.parameters c.args.geometry.growth (lent c.args.separators.now c.args.numbers.now c.args.words.now c.args.owners.now) c.requires.ready.homing.valid c.requires.ready.sized c.args.page c.requires.page_lt_pages.0) ∙ sym (stars-count c.args.geometry.parameters c.args.geometry.growth (lent c.args.separators.now c.args.numbers.now c.args.words.now c.args.owners.now) c.requires.ready.homing.valid c.requires.ready.sized c.args.page c.requires.page_lt_pages.0) in
    let more = ltb-true (length c.args.waiting.now - c.args.end) (stars_in 0 (slice (c.args.page * c.args.geometry.parameters.places) (c.args.page * c.args.geometry.parameters.places + c.args.geometry.parameters.places) c.args.numbers.now)) (sym c.exceeds.ensures ∙ c.if-exceeds.true) in
    record { sound = sound; many = omega (arith, more, stars, c.requires.waiting_len.0, c.requires.page_lt_pages.1) }

pub append-reach-requires : goal.append-reach-requires
append-reach-requires c =
    let inside : (n : ℕ) → n ≡ c.args.geometry.parameters.pages * c.args.geometry.parameters.places → c.args.page * c.args.geometry.parameters.places + c.args.geometry.parameters.places ≤ n = λ n e. page-fits _ _ _ c.requires.page_lt_pages.0 e in
    let told : c.test_page.result ≡ sound_at c.args.geometry.parameters c.args.geometry.growth (lent c.args.separators.now c.args.numbers.now c.args.words.now c.args.owners.now) c.args.page = c.test_page.ensures.sound ∙ sound-loaded _ _ (lent c.args.separators.now c.args.numbers.now c.args.words.now c.args.owners.now) _ _ (inside _ c.requires.ready.sized.of_numbers) (inside _ c.requires.ready.sized.of_words_lem) (inside _ c.requires.ready.sized.of_owners) c.load-value.ensures in
    let sound : sound_at c.args.geometry.parameters c.args.geometry.growth (lent c.args.separators.now c.args.numbers.now c.args.words.now c.args.owners.now) c.args.page ≡ true = sym told ∙ c.if-not-test_page.false in
    let stars : (stars_in 0 (slice (c.args.page * c.args.geometry.parameters.places) (c.args.page * c.args.geometry.parameters.places + c.args.geometry.parameters.places) c.args.numbers.now)) ≡ length (page_words c.args.geometry.parameters c.args.geometry.growth (lent c.args.separators.now c.args.numbers.now c.args.words.now c.args.owners.now) c.args.page) = ap (stars_in 0) (slice-page c.args.geometry.parameters c.args.geometry.growth (lent c.args.separators.now c.args.numbers.now c.args.words.now c.args.owners.now) c.requires.ready.homing.valid c.requires.ready.sized c.args.page c.requires.page_lt_pages.0) ∙ sym (stars-count c.args.geometry.parameters c.args.geometry.growth (lent c.args.separators.now c.args.numbers.now c.args.words.now c.args.owners.now) c.requires.ready.homing.valid c.requires.ready.sized c.args.page c.requires.page_lt_pages.0) in
    let p = c.args.geometry.parameters in
    let g = c.args.geometry.growth in
    let l = c.load-value in
    let h = c.test_page in
    let yes = c.if-not-test_page.false in
    let fits = ltb-false (length c.args.waiting.now - c.args.end) (stars_in 0 (slice (c.args.page * c.args.geometry.parameters.places) (c.args.page * c.args.geometry.parameters.places + c.args.geometry.parameters.places) c.args.numbers.now)) (sym c.exceeds.ensures ∙ c.if-exceeds.false) in
    let same = loaded-numbers p g (lent c.args.separators.now c.args.numbers.now c.args.words.now c.args.owners.now) c.requires.ready.homing.valid c.requires.ready.sized c.args.page c.requires.page_lt_pages.0 l.result l.ensures in record {
      places_bound = ((limits p c.requires.ready.homing.valid).places_most, page-few p g (lent c.args.separators.now c.args.numbers.now c.args.words.now c.args.owners.now) c.requires.ready.homing.valid c.requires.ready.sized c.args.page c.requires.page_lt_pages.0);
      places_in_bounds = (
        loaded-long p g (lent c.args.separators.now c.args.numbers.now c.args.words.now c.args.owners.now) c.requires.ready.homing.valid c.requires.ready.sized c.args.page c.requires.page_lt_pages.0 l.result l.ensures,
        homes-long p g (lent c.args.separators.now c.args.numbers.now c.args.words.now c.args.owners.now) c.requires.ready.homing.valid c.requires.ready.sized c.args.page c.requires.page_lt_pages.0 l.result l.ensures sound _ (h.ensures.homed yes),
      );
      numbers_value = (
        loaded-below p g (lent c.args.separators.now c.args.numbers.now c.args.words.now c.args.owners.now) c.requires.ready.homing.valid c.requires.ready.sized c.args.page c.requires.page_lt_pages.0 l.result l.ensures sound,
        homes-small p g (lent c.args.separators.now c.args.numbers.now c.args.words.now c.args.owners.now) c.requires.ready.homing.valid c.requires.ready.sized c.args.page c.requires.page_lt_pages.0 l.result l.ensures sound _ (h.ensures.homed yes),
      );
      numbers_in_bounds = omega (arith, fits, stars, ap (stars_in 0) same, stars-count p g (lent c.args.separators.now c.args.numbers.now c.args.words.now c.args.owners.now) c.requires.ready.homing.valid c.requires.ready.sized c.args.page c.requires.page_lt_pages.0, c.requires.page_lt_pages.1);
    }

pub returns : goal.returns
returns c =
    let inside : (n : ℕ) → n ≡ c.args.geometry.parameters.pages * c.args.geometry.parameters.places → c.args.page * c.args.geometry.parameters.places + c.args.geometry.parameters.places ≤ n = λ n e. page-fits _ _ _ c.requires.page_lt_pages.0 e in
    let told : c.test_page.result ≡ sound_at c.args.geometry.parameters c.args.geometry.growth (lent c.args.separators.now c.args.numbers.now c.args.words.now c.args.owners.now) c.args.page = c.test_page.ensures.sound ∙ sound-loaded _ _ (lent c.args.separators.now c.args.numbers.now c.args.words.now c.args.owners.now) _ _ (inside _ c.requires.ready.sized.of_numbers) (inside _ c.requires.ready.sized.of_words_lem) (inside _ c.requires.ready.sized.of_owners) c.load-value.ensures in
    let sound : sound_at c.args.geometry.parameters c.args.geometry.growth (lent c.args.separators.now c.args.numbers.now c.args.words.now c.args.owners.now) c.args.page ≡ true = sym told ∙ c.if-not-test_page.false in
    let p = c.args.geometry.parameters in
    let g = c.args.geometry.growth in
    let l = c.load-value in
    let h = c.test_page in
    let yes = c.if-not-test_page.false in
    let same = loaded-words p g (lent c.args.separators.now c.args.numbers.now c.args.words.now c.args.owners.now) c.requires.ready.homing.valid c.requires.ready.sized c.args.page c.requires.page_lt_pages.0 l.result l.ensures sound _ (h.ensures.homed yes) in
    record {
      sound = sound;
      ends = c.append-reach.ensures.value ∙ ap (λ (w : List ℕ). c.args.end + length w) same;
      words = c.append-reach.ensures.waiting_after ∙ ap (λ (w : List ℕ). take c.args.end c.args.waiting.now ++ w) same;
    }
