use mathlib.Core.Path.{◌≡◌, refl}
use native.Mathlib.Omega.{arith}
use Rattle.comparison.proofs.Differences.{number-differs, word-differs, owner_differs, place_same, separator_differs, separator_same, compared-none, compared-found, compared-place, compared-page, compared-all}
use Rattle.comparison.proofs.search.compare.Goals as goal

pub pages-init : goal.pages-init
pages-init c = record { compared = compared-none _ _ _ _; none = (refl, refl) }

pub loop-place-init : goal.loop-place-init
loop-place-init c = record { compared = c.pages.invariant.compared; none = c.pages.invariant.none }

pub returns-then-numbers-item : goal.returns-then-numbers-item
returns-then-numbers-item c =
    let h = c.loop-place.invariant.compared in
    record {
      place_value = compared-found _ _ _ _ _ _ h c.pages-test.true (number-differs _ _ _ _ _ c.loop-place-test.true c.if-numbers-item.true);
      place_le_places = h.within;
    }

pub returns-then-words-item : goal.returns-then-words-item
returns-then-words-item c =
    let h = c.loop-place.invariant.compared in
    record {
      place_value = compared-found _ _ _ _ _ _ h c.pages-test.true (word-differs _ _ _ _ _ c.loop-place-test.true c.if-words-item.true);
      place_le_places = h.within;
    }

pub returns-then-owners-item : goal.returns-then-owners-item
returns-then-owners-item c =
    let h = c.loop-place.invariant.compared in
    record {
      place_value = compared-found _ _ _ _ _ _ h c.pages-test.true (owner_differs _ _ _ _ _ c.loop-place-test.true c.if-owners-item.true);
      place_le_places = h.within;
    }

pub loop-place-preserved : goal.loop-place-preserved
loop-place-preserved c =
    record {
      compared = compared-place _ _ _ _ _ _ c.loop-place.invariant.compared c.pages-test.true c.loop-place-test.true
          (place_same _ _ _ _ _ c.loop-place-test.true c.if-numbers-item.false c.if-words-item.false c.if-owners-item.false);
      none = c.loop-place.invariant.none;
    }

pub returns-then-separators-page : goal.returns-then-separators-page
returns-then-separators-page c =
    let all : c.loop-place.place ≡ c.args.places = omega arith in
    record {
      place_value = compared-found _ _ _ _ _ _ (rw all at c.loop-place.invariant.compared) c.pages-test.true (separator_differs _ _ _ _ _ (omega arith) c.if-separators-page.true);
      place_le_places = omega arith;
    }

pub pages-preserved : goal.pages-preserved
pages-preserved c =
    record {
      compared = compared-page _ _ _ _ _ _ c.loop-place.invariant.compared c.pages-test.true c.loop-place-test.false (separator_same _ _ _ _ _ c.loop-place-test.false c.if-separators-page.false);
      none = c.loop-place.invariant.none;
    }

pub returns-after-pages : goal.returns-after-pages
returns-after-pages c =
    let all : c.pages.page ≡ c.args.pages = omega arith in
    let e = c.pages.invariant.none in
    record {
      place_value = rw (e.0, e.1) (compared-all _ _ _ _ _ _ (rw all at c.pages.invariant.compared) (omega arith) refl);
      place_le_places = rw e.1 (omega arith);
    }
