-- A page is sound exactly if each of its items is, after the one before.
use mathlib.Core.Path.{◌≡◌, refl, sym, ap, ◌∙◌}
use mathlib.Core.Bool.{Bool, true, false, not, cond, ◌&&◌, true≢false, false≢true}
use mathlib.Core.List.{List, [], ◌∷◌, map, map-append}
use Prim.Native.Nat.{ℕ, suc, ◌+◌, ◌*◌, ◌≤◌, ◌<◌}
use native.Mathlib.Nat.{le_refl}
use native.Mathlib.Numerals.{add-one}
use native.Mathlib.Decide.{dec_lt}
use native.Mathlib.Omega.{arith}
use lib.Dec.{leb, ltb, eqb}
use lib.ListN.{length, get_or, take, drop, set, length-map, length-set, length-take, drop_of_length-le}
use lib.Seq.{drop-cons, length-take-le, get_or-take, take-suc, take-suc-set, take-take, paste}
use borrow.Author.Tests.{eq-eqb, ne_eqb, eqb-false, ltb-true, leb-true}
use Rattle.buffers.proofs.Lists.{map-item}
use Rattle.hashing.specs.declared.Parameters.{Parameters}
use Rattle.hashing.specs.declared.Growth.{Growth}
use Rattle.generator.specs.Generator.{top_of_lem}
use Rattle.pages.specs.Position.{valid_word}
use Rattle.pages.specs.Page.{part}
use Rattle.pages.specs.Shape.{page_at}
use Rattle.pages.specs.declared.page.Page.{Page}
use Rattle.pages.proofs.Parts.{take-filled}
use Rattle.placement.specs.Rule.{Star, keep, star_with}
use Rattle.placement.specs.File.{File, stars_of, stars_at, greatest, orderly, every, sound}
use Rattle.placement.specs.Hash.{hash_of, sound_at, named_page_lem}
use Rattle.placement.specs.Shape.{home_in, homes_of}
use Rattle.placement.proofs.Filters.{and-true}
use Rattle.soundness.specs.Survey.{admits, sound_in, admits_item, last_after}

-- a function of all items at once, by one item
pub found-count : (f : ℕ → ℕ) (ns hs : List ℕ) (n : ℕ) → n ≤ length ns → take n hs ≡ map f (take n ns) → n ≤ length hs
found-count f ns hs n h e = omega (arith, ap length e, length-map (take n ns) f, length-take-le n ns h, length-take n hs)

pub item-at : (f : ℕ → ℕ) (ns hs : List ℕ) (n i : ℕ) → n ≤ length ns → i < n → take n hs ≡ map f (take n ns) → get_or hs i 0 ≡ f (get_or ns i 0)
item-at f ns hs n i h b e =
    sym (get_or-take n hs i 0 b)
    ∙ rw e (map-item f (take n ns) i (omega (arith, length-take-le n ns h)) ∙ rw (get_or-take n ns i 0 b))

-- .. of the items before the first empty place
pub found-led : (f : ℕ → ℕ) (ns hs : List ℕ) (stars places : ℕ) → stars ≤ length ns → (stars < places → get_or ns stars 0 ≡ 0) → take stars hs ≡ map f (take stars ns)
    → (i : ℕ) → i < places → ((j : ℕ) → j ≤ i → get_or ns j 0 ≡ 0 → ⊥) → get_or hs i 0 ≡ f (get_or ns i 0)
found-led f ns hs stars places h empty e i l led = go (dec_lt i stars)
  where
    go : Dec (i < stars) → get_or hs i 0 ≡ f (get_or ns i 0)
    go (yes d) = item-at f ns hs stars i h d e
    go (no d) = absurd (led stars (omega arith) (empty (omega arith)))

pub in_order : (last n : ℕ) (valid : Bool) → ltb last n && (leb n greatest && valid) ≡ true → (last < n) × (n ≤ greatest)
in_order last n valid e =
    let both = and-true (ltb last n) (leb n greatest && valid) e in
    (ltb-true last n both.0, leb-true n greatest (and-true (leb n greatest) valid both.1).0)

module _ (p : Parameters) (g : Growth) (seps : List ℕ) (page : ℕ) where
  -- one item, then the others
  pub admits-cons : (last n w o : ℕ) (ns ws os : List ℕ)
      → admits p g seps page last (n ∷ ns) (w ∷ ws) (o ∷ os) ≡ admits_item p g seps page last n w o && admits p g seps page (last_after n) ns ws os
  unfolding admits admits_item orderly stars_of every
  admits-cons last n w o ns ws os = go (eqb n 0)
    where
      here : Star → Bool
      here s = eqb (named_page_lem p g seps s.number) page

      shuffled : (b c d e r s : Bool) → (b && (c && (d && r))) && (e && s) ≡ (b && (c && (d && e))) && (r && s)
      shuffled true true true true true s = refl
      shuffled true true true true false s = refl
      shuffled true true true false true s = refl
      shuffled true true true false false s = refl
      shuffled true true false e r s = refl
      shuffled true false d e r s = refl
      shuffled false c d e r s = refl

      grouped : (b c d e : Bool) → (b && (c && d)) && e ≡ (b && c) && (d && e)
      grouped true true d e = refl
      grouped true false d e = refl
      grouped false c d e = refl

      go : (t : Bool) →
          cond t (eqb w 0 && (eqb o 0 && orderly valid_word greatest ns ws os)) (ltb last n && (leb n greatest && (valid_word w && orderly valid_word n ns ws os)))
          && every here (keep (not t) (star_with n w o) (stars_of ns ws os))
          ≡ cond t (eqb w 0 && eqb o 0) (ltb last n && (leb n greatest && (valid_word w && eqb (named_page_lem p g seps n) page)))
          && (orderly valid_word (cond t greatest n) ns ws os && every here (stars_of ns ws os))
      go true = grouped (eqb w 0) (eqb o 0) (orderly valid_word greatest ns ws os) (every here (stars_of ns ws os))
      go false =
          shuffled (ltb last n) (leb n greatest) (valid_word w) (eqb (named_page_lem p g seps n) page) (orderly valid_word n ns ws os) (every here (stars_of ns ws os))

  -- one item: an empty place, a star out of order, a star in order
  module _ (last n w o : ℕ) where
    pub empty-item : n ≡ 0 → admits_item p g seps page last n w o ≡ eqb w 0 && eqb o 0
    unfolding admits_item
    empty-item h = rw (eq-eqb n 0 h)

    pub refused-item : (n ≡ 0 → ⊥) → ltb last n && (leb n greatest && valid_word w) ≡ false → admits_item p g seps page last n w o ≡ false
    unfolding admits_item
    refused-item h e = rw (ne_eqb n 0 h) (go (ltb last n) (leb n greatest) (valid_word w) (eqb (named_page_lem p g seps n) page) e)
      where
        go : (b c d t : Bool) → b && (c && d) ≡ false → b && (c && (d && t)) ≡ false
        go true true true t e = absurd (true≢false e)
        go true true false t e = refl
        go true false d t e = refl
        go false c d t e = refl

    pub passed-item : (n ≡ 0 → ⊥) → ltb last n && (leb n greatest && valid_word w) ≡ true → admits_item p g seps page last n w o ≡ eqb (named_page_lem p g seps n) page
    unfolding admits_item
    passed-item h e = rw (ne_eqb n 0 h) (go (ltb last n) (leb n greatest) (valid_word w) (eqb (named_page_lem p g seps n) page) e)
      where
        go : (b c d t : Bool) → b && (c && d) ≡ true → b && (c && (d && t)) ≡ t
        go true true true t e = refl
        go true true false t e = absurd (false≢true e)
        go true false d t e = absurd (false≢true e)
        go false c d t e = absurd (false≢true e)

  -- behind an empty place no star is admitted
  pub led-next : (ns : List ℕ) (i last next w o : ℕ) → ((j : ℕ) → j < i → get_or ns j 0 ≡ 0 → last ≡ greatest)
      → admits_item p g seps page last (get_or ns i 0) w o ≡ true → next ≡ last_after (get_or ns i 0) → (j : ℕ) → j < i + 1 → get_or ns j 0 ≡ 0 → next ≡ greatest
  unfolding admits_item
  led-next ns i last next w o led taken e j h empty = go (eqb (get_or ns i 0) 0) refl
    where
      star : eqb (get_or ns i 0) 0 ≡ false → ⊥
      star f =
          let n = get_or ns i 0 in
          let other : n ≡ 0 → ⊥ = eqb-false n 0 f in
          let full : ltb last n && (leb n greatest && (valid_word w && eqb (named_page_lem p g seps n) page)) ≡ true = rw f at taken in
          let placed = in_order last n (valid_word w && eqb (named_page_lem p g seps n) page) full in
          earlier (dec_lt j i) other placed.0 placed.1
        where
          earlier : Dec (j < i) → (get_or ns i 0 ≡ 0 → ⊥) → last < get_or ns i 0 → get_or ns i 0 ≤ greatest → ⊥
          earlier (yes d) other high low = omega (arith, led j d empty, high, low)
          earlier (no d) other high low = let same : j ≡ i = omega arith in other (rw (← same) empty)

      go : (t : Bool) → eqb (get_or ns i 0) 0 ≡ t → next ≡ greatest
      go true f = e ∙ rw f
      go false f = absurd (star f)

  -- the first i items were admitted
  pub record Admitting (ns ws os : List ℕ) (places i last : ℕ) : Type 0 where
    pub numbered : places ≤ length ns
    pub worded : places ≤ length ws
    pub owned : places ≤ length os
    pub is : admits p g seps page 0 (take places ns) (take places ws) (take places os) ≡ admits p g seps page last (drop i (take places ns)) (drop i (take places ws)) (drop i (take places os))

  pub admitting-none : (ns ws os : List ℕ) (places : ℕ) → places ≤ length ns → places ≤ length ws → places ≤ length os → Admitting ns ws os places 0 0
  admitting-none ns ws os places n w o = record { numbered = n; worded = w; owned = o; is = refl }

  module _ {ns ws os : List ℕ} {places i last : ℕ} (done : Admitting ns ws os places i last) where
    -- the next item decides, or is admitted too
    onward : i < places → admits p g seps page 0 (take places ns) (take places ws) (take places os) ≡ admits_item p g seps page last (get_or ns i 0) (get_or ws i 0) (get_or os i 0) && admits p g seps page (last_after (get_or ns i 0)) (drop (suc i) (take places ns)) (drop (suc i) (take places ws)) (drop (suc i) (take places os))
    onward h =
        done.is
        ∙ rw (
          drop-cons (take places ns) i 0 (omega (arith, length-take-le places ns done.numbered)),
          drop-cons (take places ws) i 0 (omega (arith, length-take-le places ws done.worded)),
          drop-cons (take places os) i 0 (omega (arith, length-take-le places os done.owned)),
          get_or-take places ns i 0 h,
          get_or-take places ws i 0 h,
          get_or-take places os i 0 h,
        )
        (admits-cons last (get_or ns i 0) (get_or ws i 0) (get_or os i 0) (drop (suc i) (take places ns)) (drop (suc i) (take places ws)) (drop (suc i) (take places os)))

    pub admitting-refused : i < places → admits_item p g seps page last (get_or ns i 0) (get_or ws i 0) (get_or os i 0) ≡ false → admits p g seps page 0 (take places ns) (take places ws) (take places os) ≡ false
    admitting-refused h e = onward h ∙ rw e

    pub admitting-more : {next : ℕ} → i < places → admits_item p g seps page last (get_or ns i 0) (get_or ws i 0) (get_or os i 0) ≡ true → next ≡ last_after (get_or ns i 0) → Admitting ns ws os places (i + 1) next
    admitting-more {next} h e l =
        record {
          numbered = done.numbered;
          worded = done.worded;
          owned = done.owned;
          is = rw (add-one i, l) (onward h ∙ rw e);
        }

    pub admitting-all : i ≡ places → admits p g seps page 0 (take places ns) (take places ws) (take places os) ≡ true
    unfolding admits orderly stars_of every
    admitting-all e =
        let none : drop i (take places ns) ≡ [] = drop_of_length-le (take places ns) {i = i} (omega (arith, length-take-le places ns done.numbered)) in
        done.is ∙ rw none

  -- .. and their homes are kept
  pub record Surveyed (ns ws os : List ℕ) (places i last : ℕ) (homes : List ℕ) : Type 0 where
    pub admitting : Admitting ns ws os places i last
    pub long : length homes ≡ 32
    pub homed : take i homes ≡ homes_of p g (take i ns)

  pub surveyed-none : (ns ws os : List ℕ) (places : ℕ) (homes : List ℕ) → places ≤ length ns → places ≤ length ws → places ≤ length os → length homes ≡ 32
      → Surveyed ns ws os places 0 0 homes
  unfolding homes_of
  surveyed-none ns ws os places homes n w o h = record { admitting = admitting-none ns ws os places n w o; long = h; homed = refl }

  pub surveyed-more : {ns ws os : List ℕ} {places i last : ℕ} {homes : List ℕ} {home next : ℕ} → Surveyed ns ws os places i last homes → i < places → i < 32
      → admits_item p g seps page last (get_or ns i 0) (get_or ws i 0) (get_or os i 0) ≡ true → home ≡ home_in p g (get_or ns i 0) → next ≡ last_after (get_or ns i 0)
      → Surveyed ns ws os places (i + 1) next (set homes i home)
  unfolding homes_of
  surveyed-more {ns} {ws} {os} {places} {i} {last} {homes} {home} {next} done h k e t l =
      record {
        admitting = admitting-more done.admitting h e l;
        long = length-set homes i home ∙ done.long;
        homed =
            rw (
              add-one i,
              take-suc-set homes i home (omega (arith, done.long)),
              take-suc ns i 0 (omega (arith, done.admitting.numbered)),
              map-append (home_in p g) (take i ns) (get_or ns i 0 ∷ []),
              done.homed,
              t,
            );
      }

module _ (p : Parameters) (g : Growth) (f : File) (page : ℕ) where
  -- by the page's items
  pub sound-items : sound_in p g f.separators page (part p.places page f.numbers) (part p.places page f.words) (part p.places page f.owners) ≡ sound_at p g f page
  unfolding sound_in admits sound_at sound stars_at named_page_lem hash_of
  sound-items =
      swapped (leb (get_or f.separators page 0) (top_of_lem p.bits))
      (orderly valid_word 0 (part p.places page f.numbers) (part p.places page f.words) (part p.places page f.owners))
      _
    where
      swapped : (b c d : Bool) → b && (c && d) ≡ c && (b && d)
      swapped true c d = refl
      swapped false true d = refl
      swapped false false d = refl

  -- by the value that `load` makes of them
  pub sound-loaded : (v : Page) → page * p.places + p.places ≤ length f.numbers → page * p.places + p.places ≤ length f.words
      → page * p.places + p.places ≤ length f.owners → v ≡ page_at p.places page f.numbers f.words f.owners
      → sound_in p g f.separators page (take p.places v.numbers) (take p.places v.words) (take p.places v.owners) ≡ sound_at p g f page
  sound-loaded v hn hw ho e =
      rw (e, take-filled p.places page f.numbers hn, take-filled p.places page f.words hw, take-filled p.places page f.owners ho) sound-items

pub homes-loaded : (p : Parameters) (g : Growth) (page : ℕ) (ns ws os : List ℕ) (v : Page) → page * p.places + p.places ≤ length ns → v ≡ page_at p.places page ns ws os → homes_of p g (take p.places v.numbers) ≡ homes_of p g (part p.places page ns)
homes-loaded p g page ns ws os v h e = rw (e, take-filled p.places page ns h)

-- a paste takes the front of what it pastes
pub paste_front : (d s t : List ℕ) (at n : ℕ) → take n s ≡ t → paste d at s n ≡ paste d at t n
paste_front d s t at n e = rw (← e, take-take n n s (le_refl n))
