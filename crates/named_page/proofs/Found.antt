-- What is found of a number on the page that the separators name.
use mathlib.Core.Path.{◌≡◌, sym, ap, ◌∙◌}
use mathlib.Core.Bool.{Bool, true, false, false≢true}
use mathlib.Core.List.{List}
use Prim.Native.Nat.{ℕ, ◌+◌, ◌*◌, ◌≤◌, ◌<◌}
use native.Mathlib.Nat.{zero-add}
use native.Mathlib.Omega.{arith}
use lib.ListN.{length, get_or, take}
use lib.Seq.{paste}
use borrow.Author.Tests.{lt-ltb, le-ltb, leb-true}
use Rattle.hashing.proofs.Bounds.{both}
use Rattle.hashing.specs.declared.Parameters.{Parameters}
use Rattle.hashing.specs.declared.Growth.{Growth}
use Rattle.hashing.specs.Geometry.{multiplier_of}
use Rattle.hashing.specs.Home.{home}
use Rattle.pages.specs.Page.{part, place_of}
use Rattle.pages.specs.Shape.{filled, place_in, page_at}
use Rattle.pages.specs.Position.{valid_word, valid_number}
use Rattle.pages.specs.declared.page.Page.{Page}
use Rattle.pages.specs.declared.page.Place.{Place}
use Rattle.pages.proofs.Parts.{page-fits, take-filled, part_length, part-item, filled-item}
use Rattle.pages.proofs.Places.{place-le, held-there}
use Rattle.placement.specs.Rule.{star_with}
use Rattle.placement.specs.File.{File, stars_at}
use Rattle.placement.specs.Shape.{Sized}
use Rattle.placement.specs.Hash.{hash_of, sound_at, named_page_lem}
use Rattle.placement.specs.Shape.{homes_of}
use Rattle.soundness.proofs.Items.{paste_front}
use Rattle.placement.proofs.Standing.{first-le}
use Rattle.placement.proofs.Search.{held-star}
use Rattle.placement.proofs.Sound.{sound-facts, sound-proper}
use Rattle.reach.specs.Known.{Known}
use Rattle.reach.proofs.Surveyed.{surveyed-known}
use Rattle.calls.specs.Calls.{named, readable, holds, place_for, item_of, owner_for}
use Rattle.call_guard.proofs.Admitting.{readable-facts}
use Rattle.named_page.specs.declared.finding.Named.{Named}
use Rattle.named_page.specs.Named.{NamedAs, HomedAs}

pub named-most : (p : Parameters) (g : Growth) (f : File) (k : ℕ) → Sized p.places p.pages f → named p g f k ≤ p.pages
unfolding named_page_lem
named-most p g f k sized =
    omega (arith, first-le (hash_of p g) 0 f.separators k, zero-add (length f.separators), sized.of_separators)

pub one-least : (k : ℕ) → valid_number k ≡ true → 1 ≤ k
unfolding valid_number
one-least k e = leb-true 1 k (both _ _ e).0

pub past-file : (p : Parameters) (g : Growth) (f : File) (page : ℕ) → page ≡ p.pages → readable p g f page ≡ false
unfolding readable
past-file p g f page e = rw (le-ltb page p.pages (omega arith))

pub in_file : (p : Parameters) (g : Growth) (f : File) (page : ℕ) (t : Bool) → page < p.pages → sound_at p g f page ≡ t → readable p g f page ≡ t
unfolding readable
in_file p g f page t h e = rw (lt-ltb page p.pages h, e)

module _ (p : Parameters) (g : Growth) (f : File) (k from page : ℕ) (sized : Sized p.places p.pages f) (homed : from ≡ home (multiplier_of p) p g k) (is : page ≡ named p g f k) where
  pub unread-as : readable p g f page ≡ false
      → NamedAs p g f k (record { home = from; page = page; readable = false; held = false; place = 0; item = 0; word = 0; owner = 0 })
  unread-as e =
      record {
        home_is = homed;
        page_most = rw is (named-most p g f k sized);
        page_is = is;
        readable_is = sym (rw (← is) e);
        held_is = λ t. absurd (false≢true t);
        place_is_lem = λ t. absurd (false≢true t);
        item_is = λ t. absurd (false≢true t);
        word_is = λ t. absurd (false≢true t);
        owner_is = λ t. absurd (false≢true t);
        item_below = λ t. absurd (false≢true t);
        word_valid_lem = λ t. absurd (false≢true t);
      }

  pub absent_as : (place : ℕ) → readable p g f page ≡ true → holds p f page k ≡ false → place ≡ place_for p f page k
      → NamedAs p g f k (record { home = from; page = page; readable = true; held = false; place = place; item = 0; word = 0; owner = 0 })
  absent_as place e h a =
      record {
        home_is = homed;
        page_most = rw is (named-most p g f k sized);
        page_is = is;
        readable_is = sym (rw (← is) e);
        held_is = λ t. sym (rw (← is) h);
        place_is_lem = λ t. rw (← is) a;
        item_is = λ t. absurd (false≢true t);
        word_is = λ t. absurd (false≢true t);
        owner_is = λ t. absurd (false≢true t);
        item_below = λ t. absurd (false≢true t);
        word_valid_lem = λ t. absurd (false≢true t);
      }

  pub held-as : (place item word owner : ℕ) → readable p g f page ≡ true → holds p f page k ≡ true → place ≡ place_for p f page k → item ≡ item_of p f page k
      → word ≡ get_or f.words (item_of p f page k) 0 → owner ≡ owner_for p f page k → item < p.pages * p.places → valid_word word ≡ true
      → NamedAs p g f k (record { home = from; page = page; readable = true; held = true; place = place; item = item; word = word; owner = owner })
  held-as place item word owner e h a i w o b v =
      record {
        home_is = homed;
        page_most = rw is (named-most p g f k sized);
        page_is = is;
        readable_is = sym (rw (← is) e);
        held_is = λ t. sym (rw (← is) h);
        place_is_lem = λ t. rw (← is) a;
        item_is = λ t. rw (← is) i;
        word_is = λ t. rw (← is) w;
        owner_is = λ t. rw (← is) o;
        item_below = λ t. b;
        word_valid_lem = λ t. v;
      }

-- the search of the loaded page, said of the lent lists
module _ (p : Parameters) (f : File) (k page : ℕ) (v : Page) (place : Place) (inside : page * p.places + p.places ≤ length f.numbers)
    (loaded : v ≡ page_at p.places page f.numbers f.words f.owners) (found : place ≡ place_in k (take p.places v.numbers)) where
  searched : place ≡ place_in k (part p.places page f.numbers)
  searched = found ∙ rw (loaded, take-filled p.places page f.numbers inside)

  pub held-is : place.held ≡ holds p f page k
  unfolding holds
  held-is = ap (λ (q : Place). q.held) searched

  pub place_is : place.at ≡ place_for p f page k
  place_is = ap (λ (q : Place). q.at) searched

  pub place-most : place.at ≤ p.places
  place-most = rw place_is (rw (part_length p.places page f.numbers inside) at (place-le k (part p.places page f.numbers)))

  pub at-is : page * p.places + place.at ≡ item_of p f page k
  unfolding item_of
  at-is = ap (λ (i : ℕ). page * p.places + i) place_is

  pub at-below : place.held ≡ true → place.at < p.places
  unfolding holds
  at-below h =
      let there = (held-there k (part p.places page f.numbers) (sym held-is ∙ h)).0 in
      rw place_is (rw (part_length p.places page f.numbers inside) at there)

  -- an item of the loaded page is the lent list's
  item-there : (l : List ℕ) → place.held ≡ true → get_or (filled (part p.places page l)) place.at 0 ≡ get_or l (item_of p f page k) 0
  item-there l h =
      filled-item (part p.places page l) place.at
      ∙ (part-item p.places page l place.at (at-below h) ∙ ap (λ (i : ℕ). get_or l i 0) at-is)

  pub word-is : place.held ≡ true → get_or v.words place.at 0 ≡ get_or f.words (item_of p f page k) 0
  word-is h = ap (λ (q : Page). get_or q.words place.at 0) loaded ∙ item-there f.words h

  pub owner_is_lem : place.held ≡ true → get_or v.owners place.at 0 ≡ owner_for p f page k
  owner_is_lem h = ap (λ (q : Page). get_or q.owners place.at 0) loaded ∙ item-there f.owners h

  pub item-below : place.held ≡ true → p.pages * p.places ≡ length f.numbers → page * p.places + place.at < p.pages * p.places
  item-below h e = omega (arith, at-below h)

-- a star that a sound page holds has a valid word
pub word-valid : (p : Parameters) (g : Growth) (f : File) (page k : ℕ) → Sized p.places p.pages f → page < p.pages → 1 ≤ k → sound_at p g f page ≡ true
    → holds p f page k ≡ true → valid_word (get_or f.words (item_of p f page k) 0) ≡ true
unfolding sound_at holds item_of stars_at hash_of
word-valid p g f page k sized inside some sound held =
    let ns = part p.places page f.numbers in
    let ws = part p.places page f.words in
    let os = part p.places page f.owners in
    let long : (l : List ℕ) → length l ≡ p.pages * p.places → length (part p.places page l) ≡ p.places
    = λ l e. part_length p.places page l (page-fits p.places p.pages page inside e) in
    let ln : length ns ≡ p.places = long f.numbers sized.of_numbers in
    let there = (held-there k ns held).0 in
    let proper = (sound-proper valid_word (hash_of p g) f page (sound-facts valid_word (hash_of p g) f page sound) (star_with k (get_or ws (place_of k ns) 0) (get_or os (place_of k ns) 0))
    (held-star ns ws os k (ln ∙ sym (long f.words sized.of_words_lem), ln ∙ sym (long f.owners sized.of_owners)) some held)).2 in
    ap valid_word (sym (part-item p.places page f.words (place_of k ns) (rw ln at there))) ∙ proper

-- what is kept of a page that is read
module _ (p : Parameters) (g : Growth) (f : File) (k : ℕ) (r : Named) (is : NamedAs p g f k r) (opened : r.readable ≡ true) where
  facts : (r.page < p.pages) × (sound_at p g f r.page ≡ true)
  facts = readable-facts p g f r.page (ap (readable p g f) is.page_is ∙ (sym is.readable_is ∙ opened))

  pub named-inside : r.page < p.pages
  named-inside = facts.0

  pub named-known : (homes pool after : List ℕ) → HomedAs p g f r homes → Sized p.places p.pages f → length pool ≡ p.pages * p.places
      → after ≡ paste pool (r.page * p.places) homes p.places → Known p g f after r.page
  named-known homes pool after there sized long h =
      surveyed-known p g f pool after r.page sized long facts.1
      (h ∙ paste_front pool homes (homes_of p g (part p.places r.page f.numbers)) (r.page * p.places) p.places (there.homed opened))
