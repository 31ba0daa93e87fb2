-- `named_page::find` meets its contract.
use mathlib.Core.Path.{◌≡◌, sym, ◌∙◌}
use mathlib.Core.Bool.{true, false≢true}
use Prim.Native.Nat.{◌+◌, ◌*◌, ◌≤◌, ◌<◌}
use native.Mathlib.Omega.{arith}
use lib.ListN.{length, take}
use borrow.Author.Tests.{not-true, not-false}
use Rattle.hashing.proofs.Bounds.{limits}
use Rattle.pages.specs.Page.{part}
use Rattle.pages.proofs.Parts.{page-fits}
use Rattle.placement.specs.File.{File}
use Rattle.placement.specs.Hash.{lent, sound_at}
use Rattle.placement.specs.Shape.{homes_of}
use Rattle.soundness.proofs.Items.{sound-loaded, homes-loaded}
use Rattle.calls.proofs.Refusals.{items-most}
use Rattle.named_page.proofs.Found.{named-most, past-file, in_file, unread-as, absent_as, held-as, held-is, place_is, place-most, at-is, at-below, word-is, owner_is_lem, item-below, word-valid, one-least}
use borrow.Author.Rules.{rules}
use Rattle.named_page.proofs.finding.find.Lts as lts
use Rattle.named_page.proofs.finding.find.Tie as tie
use Rattle.named_page.proofs.finding.find.Reads as reads
use Rattle.named_page.proofs.finding.find.Goals as goal
use Rattle.named_page.proofs.finding.find.Goals.{Start}

abbrev Else-page-geometry : Type 0
Else-page-geometry = lts.Else1 tie.the-claims reads.Pre reads.Post tie.handed_clauses

abbrev After-page_sound : Type 0
After-page_sound = lts.After-page_sound tie.the-claims reads.Pre reads.Post tie.handed_clauses

abbrev After-search-found : Type 0
After-search-found = lts.After-search tie.the-claims reads.Pre reads.Post tie.handed_clauses

abbrev Else-not-found : Type 0
Else-not-found = lts.Else3 tie.the-claims reads.Pre reads.Post tie.handed_clauses

abbrev file_of : Start → File
file_of s = lent s.args.separators.now s.args.numbers.now s.args.words.now s.args.owners.now

pub named_from-page-requires : goal.named_from-page-requires
named_from-page-requires c =
    let pre = c.requires in
    record {
      homing = pre.ready.homing;
      separators_len = pre.ready.sized.of_separators;
      home_value = pre.home_value;
    }

pub returns-then-page-geometry : goal.returns-then-page-geometry
returns-then-page-geometry c =
    let s = c.before.before.before.before.before.before.before.before.before.before in
    record {
      named_as = rw c.unread.ensures (
          unread-as s.args.geometry.parameters s.args.geometry.growth (file_of s) s.args.number _ _ s.requires.ready.sized s.requires.home_value c.named_from-page.ensures
          (past-file _ _ _ _ c.if-page-geometry.true)
          );
      homed_as = rw c.unread.ensures (record { long = s.requires.homes_len; homed = λ e. absurd (false≢true e) });
    }

-- past the first test, the page is one of the file
abbrev begun : Else-page-geometry → Start
begun c = c.before.before.before.before.before.before.before.before

inside : (c : Else-page-geometry) → c.named_from-page.result < (begun c).args.geometry.parameters.pages
inside c =
    let most = named-most (begun c).args.geometry.parameters (begun c).args.geometry.growth (file_of (begun c)) (begun c).args.number (begun c).requires.ready.sized in
    omega (arith, c.if-page-geometry.false, c.named_from-page.ensures)

fits : (c : Else-page-geometry) → c.named_from-page.result * (begun c).args.geometry.parameters.places + (begun c).args.geometry.parameters.places ≤ length (begun c).args.numbers.now
fits c = page-fits _ _ _ (inside c) (begun c).requires.ready.sized.of_numbers

fits-words : (c : Else-page-geometry) → c.named_from-page.result * (begun c).args.geometry.parameters.places + (begun c).args.geometry.parameters.places ≤ length (begun c).args.words.now
fits-words c = page-fits _ _ _ (inside c) (begun c).requires.ready.sized.of_words_lem

fits-owners : (c : Else-page-geometry) → c.named_from-page.result * (begun c).args.geometry.parameters.places + (begun c).args.geometry.parameters.places ≤ length (begun c).args.owners.now
fits-owners c = page-fits _ _ _ (inside c) (begun c).requires.ready.sized.of_owners

pub load-value-requires : goal.load-value-requires
load-value-requires c = record {
  places_bound = (limits _ (begun c.before).requires.ready.homing.valid).places_most;
  places_in_bounds = fits c.before;
  places_in_bounds_2 = fits-words c.before;
  places_in_bounds_3 = fits-owners c.before;
}

pub page_sound-requires : goal.page_sound-requires
page_sound-requires c =
    let e = c.before.before.before.before.before.before in
    let pre = (begun e).requires in
    record {
      homing = pre.ready.homing;
      separators_len = pre.ready.sized.of_separators;
      page_lt_pages = inside e;
      numbers_len = search rules;
      homes_len = pre.homes_len;
    }

-- from the test of the page on
abbrev entered : After-page_sound → Else-page-geometry
entered c = c.before.before.before.before.before.before

-- the value tested is the page's
told : (c : After-page_sound) → c.page_sound.result ≡ sound_at (begun (entered c)).args.geometry.parameters (begun (entered c)).args.geometry.growth (file_of (begun (entered c))) (entered c).named_from-page.result
told c = c.page_sound.ensures.sound ∙ sound-loaded _ _ (file_of (begun (entered c))) _ _ (fits (entered c)) (fits-words (entered c)) (fits-owners (entered c)) c.load-value.ensures

pub returns-then-not-page_sound : goal.returns-then-not-page_sound
returns-then-not-page_sound c =
    let t = c.before.before.before in
    let e = entered t in
    let s = begun e in
    record {
      named_as = rw c.unread-then-not-page_sound.ensures (
          unread-as s.args.geometry.parameters s.args.geometry.growth (file_of s) s.args.number _ _ s.requires.ready.sized s.requires.home_value e.named_from-page.ensures
          (in_file _ _ _ _ _ (inside e) (sym (told t) ∙ c.if-not-page_sound.true))
          );
      homed_as = rw c.unread-then-not-page_sound.ensures (record { long = t.page_sound.ensures.long; homed = λ e. absurd (false≢true e) });
    }

pub search-found-requires : goal.search-found-requires
search-found-requires c = ((limits _ c.requires.ready.homing.valid).places_most, search (rules, c.load-value.type_inv))

-- what the search of the page tells of the lent lists
abbrev tested : After-search-found → After-page_sound
tested c = c.before.before.before

abbrev passed : (c : After-search-found) → (tested c).page_sound.result ≡ true
passed c = c.if-not-page_sound.false

sound : (c : After-search-found) → sound_at (begun (entered (tested c))).args.geometry.parameters (begun (entered (tested c))).args.geometry.growth (file_of (begun (entered (tested c)))) (entered (tested c)).named_from-page.result ≡ true
sound c = sym (told (tested c)) ∙ passed c

homes : (c : After-search-found)
    → take (begun (entered (tested c))).args.geometry.parameters.places (tested c).page_sound.new.homes
    ≡ homes_of (begun (entered (tested c))).args.geometry.parameters (begun (entered (tested c))).args.geometry.growth (part (begun (entered (tested c))).args.geometry.parameters.places (entered (tested c)).named_from-page.result (begun (entered (tested c))).args.numbers.now)
homes c = (tested c).page_sound.ensures.homed (passed c) ∙ homes-loaded _ _ _ _ _ _ _ (fits (entered (tested c))) (tested c).load-value.ensures

place-below : (c : After-search-found) → c.search-found.result.at ≤ (begun (entered (tested c))).args.geometry.parameters.places
place-below c =
    let e = entered (tested c) in
    place-most (begun e).args.geometry.parameters (file_of (begun e)) (begun e).args.number _ _ _ (fits e) (tested c).load-value.ensures c.search-found.ensures

pub overflow_cast-place : goal.overflow_cast-place
overflow_cast-place c = omega (arith, place-below c.before, (limits _ (begun (entered (tested c.before))).requires.ready.homing.valid).places_most)

pub returns-then-not-found : goal.returns-then-not-found
returns-then-not-found c =
    let d = c.before.before.before in
    let e = entered (tested d) in
    let s = begun e in
    let loaded = (tested d).load-value.ensures in record {
      named_as = absent_as s.args.geometry.parameters s.args.geometry.growth (file_of s) s.args.number _ _ s.requires.ready.sized s.requires.home_value e.named_from-page.ensures _
          (in_file _ _ _ _ _ (inside e) (sound d))
          (sym (held-is s.args.geometry.parameters (file_of s) _ _ _ _ (fits e) loaded d.search-found.ensures) ∙ (not-true _ c.if-not-found.true))
          (place_is s.args.geometry.parameters (file_of s) _ _ _ _ (fits e) loaded d.search-found.ensures);
      homed_as = record { long = (tested d).page_sound.ensures.long; homed = λ t. homes d };
    }

-- the number is held
abbrev sought : Else-not-found → After-search-found
sought c = c.before.before

held : (c : Else-not-found) → (sought c).search-found.result.held ≡ true
held c = (not-false _ c.if-not-found.false)

within : (c : Else-not-found) → (sought c).search-found.result.at < (begun (entered (tested (sought c)))).args.geometry.parameters.places
within c =
    let e = entered (tested (sought c)) in
    at-below (begun e).args.geometry.parameters (file_of (begun e)) (begun e).args.number _ _ _ (fits e) (tested (sought c)).load-value.ensures (sought c).search-found.ensures (held c)

few : (c : Else-not-found) → (begun (entered (tested (sought c)))).args.geometry.parameters.places ≤ 32
few c = (limits _ (begun (entered (tested (sought c)))).requires.ready.homing.valid).places_most

pub overflow_mul-result : goal.overflow_mul-result
overflow_mul-result c = let e = entered (tested (sought c.before)) in omega (arith, fits e, items-most _ (begun e).requires.ready.homing.valid, (begun e).requires.ready.sized.of_numbers)

pub overflow_add-result : goal.overflow_add-result
overflow_add-result c = let e = entered (tested (sought c.before)) in omega (arith, fits e, items-most _ (begun e).requires.ready.homing.valid, (begun e).requires.ready.sized.of_numbers, within c.before)

pub offset_bounds-value-at : goal.offset_bounds-value-at
offset_bounds-value-at c = omega (arith, within c.before, few c.before)

pub bounds-value-at : goal.bounds-value-at
bounds-value-at c = omega (arith, within c.before, few c.before)

pub bounds-value-at-2 : goal.bounds-value-at-2
bounds-value-at-2 c = omega (arith, within c.before.before, few c.before.before)

pub returns : goal.returns
returns c =
    let h = c.before.before.before in
    let d = sought h in
    let e = entered (tested d) in
    let s = begun e in
    let loaded = (tested d).load-value.ensures in record {
      named_as = held-as s.args.geometry.parameters s.args.geometry.growth (file_of s) s.args.number _ _ s.requires.ready.sized s.requires.home_value e.named_from-page.ensures _ _ _ _
          (in_file _ _ _ _ _ (inside e) (sound d))
          (sym (held-is s.args.geometry.parameters (file_of s) _ _ _ _ (fits e) loaded d.search-found.ensures) ∙ held h)
          (place_is s.args.geometry.parameters (file_of s) _ _ _ _ (fits e) loaded d.search-found.ensures)
          (at-is s.args.geometry.parameters (file_of s) _ _ _ _ (fits e) loaded d.search-found.ensures)
          (word-is s.args.geometry.parameters (file_of s) _ _ _ _ (fits e) loaded d.search-found.ensures (held h))
          (owner_is_lem s.args.geometry.parameters (file_of s) _ _ _ _ (fits e) loaded d.search-found.ensures (held h))
          (item-below s.args.geometry.parameters (file_of s) s.args.number _ _ _ (fits e) loaded d.search-found.ensures (held h) (sym s.requires.ready.sized.of_numbers))
          (rw (word-is s.args.geometry.parameters (file_of s) s.args.number _ _ _ (fits e) loaded d.search-found.ensures (held h))
          (word-valid s.args.geometry.parameters s.args.geometry.growth (file_of s) _ _ s.requires.ready.sized (inside e) (one-least _ s.requires.number_value) (sound d)
          (sym (held-is s.args.geometry.parameters (file_of s) _ _ _ _ (fits e) loaded d.search-found.ensures) ∙ held h)));
      homed_as = record { long = (tested d).page_sound.ensures.long; homed = λ t. homes d };
    }
