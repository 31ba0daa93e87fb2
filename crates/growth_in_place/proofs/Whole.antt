-- All pages: sound before, and after the moves sound under the next growth state, with the same stars.
use mathlib.Core.Path.{◌≡◌, refl, sym, ap, ◌∙◌}
use mathlib.Core.Bool.{Bool, true, false, not, cond, ◌||◌, true≢false, and-false}
use mathlib.Core.Logic.{inl, inr, ⊎_elim}
use mathlib.Core.List.{List, [], ◌∷◌, ◌++◌, map, Memᴰ}
use Prim.Native.Nat.{ℕ, zero, suc, ◌+◌, ◌-◌, ◌*◌, ◌≤◌, ◌<◌}
use native.Mathlib.Nat.{zero-add, add-zero, add-suc}
use native.Mathlib.Decide.{dec_lt}
use native.Mathlib.Omega.{arith}
use lib.Dec.{eqb}
use lib.ListN.{length, take, drop, get_or, replicate, length-map, length-drop}
use lib.Seq.{paste, length-take-le}
use borrow.Author.Tests.{not-false, eqb-true, eqb-false, ne_eqb}
use Rattle.buffers.specs.Lists.{padded, written}
use Rattle.buffers.proofs.Lists.{padded-item, map-take, map-drop}
use Rattle.buffers.proofs.Written.{paste_written}
use Rattle.hashing.specs.declared.Parameters.{Parameters}
use Rattle.hashing.specs.declared.Growth.{Growth}
use Rattle.hashing.specs.Geometry.{multiplier_of, page_count, grown, expands}
use Rattle.hashing.specs.Limits.{valid_parameters, valid_growth}
use Rattle.hashing.specs.Home.{home}
use Rattle.hashing.proofs.Homes.{home_below}
use Rattle.generator.specs.Generator.{top_of_lem}
use Rattle.pages.specs.Page.{part}
use Rattle.pages.specs.Position.{valid_word}
use Rattle.pages.proofs.Parts.{page-fits, part_length}
use Rattle.placement.specs.Rule.{Star, filter, first}
use Rattle.placement.specs.File.{File, stars_at, orderly}
use Rattle.placement.specs.Shape.{Sized}
use Rattle.placement.specs.Hash.{hash_of, sound_at, named_page_lem, lent}
use Rattle.placement.specs.Shape.{hash_from, home_in, homes_of}
use Rattle.placement.proofs.Order.{rising-same}
use Rattle.placement.proofs.Pages.{Numbered, length-stars_of}
use Rattle.placement.proofs.Files.{number_of}
use Rattle.placement.proofs.Writing.{parts_same}
use Rattle.placement.proofs.Standing.{first_home, past_top}
use Rattle.placement.proofs.Sound.{Sound, gathered-member, member_gathered, gathered-rising, sound-proper}
use Rattle.placement.proofs.Tested.{real_facts, facts-real}
use Rattle.placement.proofs.Probing.{bounded-real, first-from}
use Rattle.home_update.proofs.Rehomed.{home-grown, home-moves}
use Rattle.reach.specs.Reach.{first_unsound_lem, all_stars}
use Rattle.reach.proofs.Search.{such}
use Rattle.reach.proofs.Surveyed.{unsound}
use Rattle.page_edit.specs.Shift.{number_at, Ordered}
use Rattle.page_edit.proofs.Shifted.{of_numbers_lem}
use Rattle.page_edit.proofs.OnePage.{named-home}
use Rattle.growth_in_place.specs.Expansion.{joins, joins_at, joiners_in, joiners_below, NoneJoins, page_stars, runs_to, is_near, NoneAway, NoneCounted, RoomFor, home_on, Moving, KeptStars, SettledBelow, Spacious, Moved}
use Rattle.growth_in_place.proofs.TwoPages.{part-here, part-there, written-long}
use Rattle.growth_in_place.proofs.Step.{ordered, numbered}
use Rattle.growth_in_place.proofs.Joiners.{length-homes, joiners_none}
use Rattle.growth_in_place.proofs.Fewer.{joiners_padded}

-- homes by the stars

module _ (p : Parameters) (h : Growth) where
  abbrev pub home_of : Star → ℕ
  home_of s = home (multiplier_of p) p h s.number

  homes-front : (l : List Star) (n : ℕ) → Numbered l → map (home_in p h) (map number_of l ++ replicate n 0) ≡ map home_of l ++ replicate n 0
  homes-front [] zero a = refl
  homes-front [] (suc n) a = ap (λ (m : List ℕ). 0 ∷ m) (homes-front [] n a)
  homes-front (s ∷ l) n a =
      rw (ne_eqb s.number 0 (λ z. omega (arith, z, a s (Memᴰ.head refl)))) (ap (λ (m : List ℕ). home_of s ∷ m) (homes-front l n (λ t m. a t (Memᴰ.tail m))))

  homes-padded : (b : ℕ) (l : List Star) → Numbered l → map (home_in p h) (padded b (map number_of l)) ≡ padded b (map home_of l)
  unfolding padded
  homes-padded b l a =
      ap (λ (n : ℕ). map (home_in p h) (map number_of l ++ replicate (b - n) 0)) (length-map l number_of ∙ sym (length-map l home_of))
      ∙ homes-front l (b - length (map home_of l)) a

  homes-part : (b q : ℕ) (ns : List ℕ) → part b q (homes_of p h ns) ≡ map (home_in p h) (part b q ns)
  unfolding part homes_of
  homes-part b q ns = ap (take b) (map-drop (home_in p h) (q * b) ns) ∙ map-take (home_in p h) b (drop (q * b) ns)

  -- of a page in order
  pub homes-page : (q : ℕ) (ns ws os : List ℕ) → Ordered p.places q ns ws os → Numbered (page_stars p ns ws os q)
      → part p.places q (homes_of p h ns) ≡ padded p.places (map home_of (page_stars p ns ws os q))
  homes-page q ns ws os o a =
      homes-part p.places q ns
      ∙ ap (map (home_in p h)) (of_numbers_lem p.places q ns ws os o).1
      ∙ homes-padded p.places (page_stars p ns ws os q) a

map_same : (f h : Star → ℕ) (l : List Star) → ((s : Star) → Memᴰ s l → f s ≡ h s) → map f l ≡ map h l
map_same f h [] e = refl
map_same f h (s ∷ l) e = ap (λ (x : ℕ). x ∷ map f l) (e s (Memᴰ.head refl)) ∙ ap (λ (m : List ℕ). h s ∷ m) (map_same f h l (λ t m. e t (Memᴰ.tail m)))

full-item : (l : List Star) (j : ℕ) → j < length l → Numbered l → 1 ≤ get_or (map number_of l) j 0
full-item [] j h a = absurd (omega arith)
full-item (s ∷ l) zero h a = a s (Memᴰ.head refl)
full-item (s ∷ l) (suc j) h a = full-item l j (omega arith) (λ t m. a t (Memᴰ.tail m))

or-true : (t : Bool) → t || true ≡ true
or-true true = refl
or-true false = refl

-- the pages before

module _ (p : Parameters) (g : Growth) (f : File) (valid : valid_parameters p ≡ true) (grows : valid_growth p g ≡ true) (sized : Sized p.places p.pages f)
    (all : first_unsound_lem p g f 0 p.pages ≡ p.pages) (room : page_count p g < p.pages) (top : get_or f.separators (page_count p g) 0 ≡ top_of_lem p.bits) where
  abbrev P : ℕ
  P = page_count p g

  pub facts : (q : ℕ) → q < p.pages → Sound valid_word (hash_of p g) f q
  unfolding first_unsound_lem
  facts q h = real_facts p g f q (not-false (sound_at p g f q) ((such (unsound p g f) 0 p.pages).before q (omega arith) (omega (arith, all))))

  in_order : (q : ℕ) → q < p.pages → orderly valid_word 0 (part p.places q f.numbers) (part p.places q f.words) (part p.places q f.owners) ≡ true
  unfolding hash_of
  in_order q h = (facts q h).in_order_lem

  pub here-before : (q : ℕ) → q < p.pages → (s : Star) → Memᴰ s (page_stars p f.numbers f.words f.owners q) → first (hash_of p g) 0 f.separators s.number ≡ q
  unfolding hash_of stars_at
  here-before q h s m = (facts q h).here s m

  pub ordered-before : (q : ℕ) → q < p.pages → Ordered p.places q f.numbers f.words f.owners
  ordered-before q h =
      record {
        in_numbers = page-fits p.places p.pages q h sized.of_numbers;
        in_words = page-fits p.places p.pages q h sized.of_words_lem;
        in_owners = page-fits p.places p.pages q h sized.of_owners;
        in_order_lem = in_order q h;
      }

  pub numbered-before : (q : ℕ) → q < p.pages → Numbered (page_stars p f.numbers f.words f.owners q)
  unfolding hash_of stars_at
  numbered-before q h s m = (sound-proper valid_word (hash_of p g) f q (facts q h) s m).0

  top-there : get_or f.separators P 0 ≡ (hash_of p g).top
  unfolding hash_of
  top-there = top

  pub home-low : (k : ℕ) → (hash_of p g).home k < P
  unfolding hash_of
  home-low k = home_below (multiplier_of p) p g k valid

  -- no star stands above the new page
  pub low-before : (q : ℕ) → q < p.pages → (s : Star) → Memᴰ s (page_stars p f.numbers f.words f.owners q) → q ≤ P
  low-before q h s m = go (dec_lt P q)
    where
      go : Dec (P < q) → q ≤ P
      go (yes d) =
          absurd
          (omega (
            arith,
            zero-add P,
            home-low s.number,
            past_top (hash_of p g) (bounded-real p g valid) 0 P f.separators s.number (omega (arith, sized.of_separators)) top-there (omega (arith, here-before q h s m, zero-add P)),
          ))
      go (no d) = omega arith

  -- where stars that join the new page stand
  module _ (q : ℕ) (inside : q < p.pages) (s : Star) (there : Memᴰ s (page_stars p f.numbers f.words f.owners q)) (chosen : joins p g s.number ≡ true) where
    from-group : expands p g ((hash_of p g).home s.number) ≡ true
    unfolding hash_of joins
    from-group =
        ⊎_elim
        (λ (e : home (multiplier_of p) p g s.number ≡ home (multiplier_of p) p (grown p g) s.number).
        absurd (omega (arith, e, eqb-true (home (multiplier_of p) p (grown p g) s.number) P chosen, home-low s.number)))
        (λ (e : (expands p g (home (multiplier_of p) p g s.number) ≡ true) × (home (multiplier_of p) p g s.number < P) × (home (multiplier_of p) p (grown p g) s.number ≡ P)). e.0)
        (home-moves (multiplier_of p) p g s.number valid grows)

    home-most : (hash_of p g).home s.number ≤ q
    home-most =
        omega (
          arith,
          here-before q inside s there,
          first_home (hash_of p g) 0 f.separators s.number (omega (arith, here-before q inside s there, sized.of_separators, zero-add (length f.separators))),
        )

    passed_on : (r : ℕ) → (hash_of p g).home s.number ≤ r → r < q → eqb (get_or f.separators r 0) (top_of_lem p.bits) ≡ false
    passed_on r a b =
        ne_eqb (get_or f.separators r 0) (top_of_lem p.bits)
        (λ e.
        omega (
          arith,
          zero-add r,
          past_top (hash_of p g) (bounded-real p g valid) 0 r f.separators s.number (omega (arith, sized.of_separators)) (e ∙ sym top-is) (omega (arith, here-before q inside s there, zero-add r)),
        ))
      where
        top-is : (hash_of p g).top ≡ top_of_lem p.bits
        top-is = sym top-there ∙ top

    near-from : (n : ℕ) → (hash_of p g).home s.number + n ≤ q → is_near p g f.separators ((hash_of p g).home s.number + n) ≡ true
    unfolding runs_to
    near-from zero b = rw (add-zero ((hash_of p g).home s.number), from-group) (or-true (runs_to p g f.separators ((hash_of p g).home s.number)))
    near-from (suc n) b =
        rw (add-suc ((hash_of p g).home s.number) n, near-from n (omega arith), passed_on ((hash_of p g).home s.number + n) (omega arith) (omega arith))

    near-there : is_near p g f.separators q ≡ true
    near-there =
        let at : (hash_of p g).home s.number + (q - (hash_of p g).home s.number) ≡ q = omega (arith, home-most) in
        rw at at (near-from (q - (hash_of p g).home s.number) (omega (arith, home-most)))

  pub none-away : NoneAway p g f.separators f.numbers f.words f.owners
  none-away q low far s m = go (joins p g s.number) refl
    where
      go : (t : Bool) → joins p g s.number ≡ t → joins p g s.number ≡ false
      go true j = absurd (true≢false (sym (near-there q (omega arith) s m j) ∙ far))
      go false j = j

  pub none-counted : NoneCounted p g f.separators f.numbers
  unfolding joiners_in joins_at filter
  none-counted q low far =
      ap (joiners_in p g) (of_numbers_lem p.places q f.numbers f.words f.owners (ordered-before q (omega arith))).1
      ∙ joiners_padded p g p.places (map number_of (page_stars p f.numbers f.words f.owners q))
      ∙ go (page_stars p f.numbers f.words f.owners q) (none-away q low far)
    where
      go : (l : List Star) → NoneJoins p g l → joiners_in p g (map number_of l) ≡ 0
      go [] n = joiners_none p g
      go (s ∷ l) n = rw (n s (Memᴰ.head refl), and-false (not (eqb s.number 0))) (go l (λ t m. n t (Memᴰ.tail m)))

  -- the stars that stand on the new page, and those that come
  pub few : (count : ℕ) → RoomFor p.places P count f.numbers → length (page_stars p f.numbers f.words f.owners P) + count ≤ p.places
  few count fits = go fits
    where
      most : length (page_stars p f.numbers f.words f.owners P) ≤ p.places
      most =
          omega (
            arith,
            length-stars_of (part p.places P f.numbers) (part p.places P f.words) (part p.places P f.owners),
            part_length p.places P f.numbers (ordered-before P room).in_numbers,
          )

      item : get_or (map number_of (page_stars p f.numbers f.words f.owners P)) (p.places - count) 0 ≡ number_at p.places P (p.places - count) f.numbers
      item =
          sym
          (ap (λ (l : List ℕ). get_or l (p.places - count) 0) (of_numbers_lem p.places P f.numbers f.words f.owners (ordered-before P room)).1
          ∙ padded-item p.places (map number_of (page_stars p f.numbers f.words f.owners P)) (p.places - count))

      later : count ≤ p.places → number_at p.places P (p.places - count) f.numbers ≡ 0
          → Dec (p.places - count < length (page_stars p f.numbers f.words f.owners P)) → length (page_stars p f.numbers f.words f.owners P) + count ≤ p.places
      later c e (yes d) =
          absurd (omega (arith, item, e, full-item (page_stars p f.numbers f.words f.owners P) (p.places - count) d (numbered-before P room)))
      later c e (no d) = omega arith

      go : RoomFor p.places P count f.numbers → length (page_stars p f.numbers f.words f.owners P) + count ≤ p.places
      go (inl e) = omega (arith, e, most)
      go (inr (c, e)) = later c e (dec_lt (p.places - count) (length (page_stars p f.numbers f.words f.owners P)))

  -- stars that do not join the new page keep their homes
  pub home-kept : (k : ℕ) → joins p g k ≡ false → home (multiplier_of p) p (grown p g) k ≡ home (multiplier_of p) p g k
  unfolding joins
  home-kept k j =
      ⊎_elim
      (λ (e : home (multiplier_of p) p (grown p g) k ≡ home (multiplier_of p) p g k). e)
      (λ (e : home (multiplier_of p) p (grown p g) k ≡ page_count p g). absurd (eqb-false (home (multiplier_of p) p (grown p g) k) (page_count p g) j e))
      (home-grown (multiplier_of p) p g k valid grows)

  pub named-joined : (k : ℕ) → joins p g k ≡ true → first (hash_of p (grown p g)) 0 f.separators k ≡ P
  unfolding joins hash_of named_page_lem
  named-joined k j = named-home p (grown p g) f sized P room valid k (eqb-true (home (multiplier_of p) p (grown p g) k) P j) top

  pub named-kept : (k : ℕ) → joins p g k ≡ false → first (hash_of p (grown p g)) 0 f.separators k ≡ first (hash_of p g) 0 f.separators k
  named-kept k j =
      sym (first-from p (grown p g) 0 f.separators k)
      ∙ ap (λ (h : ℕ). first (hash_from p h) 0 f.separators k) (home-kept k j)
      ∙ first-from p g 0 f.separators k

  -- before the first move
  module _ (hs hs₁ : List ℕ) (homes : hs ≡ homes_of p g f.numbers) (count : ℕ) (counted : count ≡ joiners_below p g f.numbers P)
      (fits : RoomFor p.places P count f.numbers)
      (rehomed : hs₁ ≡ paste hs (P * p.places) (drop (P * p.places) (homes_of p (grown p g) f.numbers)) p.places) where
    long : length hs ≡ p.pages * p.places
    long = length-homes p g hs f.numbers homes ∙ sized.of_numbers

    next : List ℕ
    next = take p.places (drop (P * p.places) (homes_of p (grown p g) f.numbers))

    next-long : p.places ≤ length (drop (P * p.places) (homes_of p (grown p g) f.numbers))
    next-long =
        omega (
          arith,
          length-drop (P * p.places) (homes_of p (grown p g) f.numbers),
          length-homes p (grown p g) (homes_of p (grown p g) f.numbers) f.numbers refl,
          (ordered-before P room).in_numbers,
        )

    next-part : next ≡ part p.places P (homes_of p (grown p g) f.numbers)
    unfolding next part
    next-part = refl

    next-size : length next ≡ p.places
    unfolding next
    next-size = length-take-le p.places (drop (P * p.places) (homes_of p (grown p g) f.numbers)) next-long

    wrote : hs₁ ≡ written (P * p.places) next hs
    unfolding next
    wrote = rehomed ∙ paste_written hs (P * p.places) (drop (P * p.places) (homes_of p (grown p g) f.numbers)) p.places next-long

    home-on : (q : ℕ) (t : Bool) → eqb q P ≡ t → (s : Star) → home_on p g q s ≡ cond t (home_of p (grown p g) s) (home_of p g s)
    unfolding home_on
    home-on q t e s = rw e

    home-column : (q : ℕ) → q < p.pages → (t : Bool) → eqb q P ≡ t → part p.places q hs₁ ≡ padded p.places (map (home_on p g q) (page_stars p f.numbers f.words f.owners q))
    home-column q h true e =
        let at : q ≡ P = eqb-true q P e in
        ap (λ (r : ℕ). part p.places r hs₁) at
        ∙ ap (part p.places P) wrote
        ∙ part-here p.places p.pages P room next hs next-size long
        ∙ next-part
        ∙ homes-page p (grown p g) P f.numbers f.words f.owners (ordered-before P room) (numbered-before P room)
        ∙ ap (λ (r : ℕ). padded p.places (map (home_of p (grown p g)) (page_stars p f.numbers f.words f.owners r))) (sym at)
        ∙ ap (padded p.places) (sym (map_same (home_on p g q) (home_of p (grown p g)) (page_stars p f.numbers f.words f.owners q) (λ s m. home-on q true e s)))
    home-column q h false e =
        ap (part p.places q) wrote
        ∙ part-there p.places p.pages P room next hs next-size long q (eqb-false q P e)
        ∙ ap (part p.places q) homes
        ∙ homes-page p g q f.numbers f.words f.owners (ordered-before q h) (numbered-before q h)
        ∙ ap (padded p.places) (sym (map_same (home_on p g q) (home_of p g) (page_stars p f.numbers f.words f.owners q) (λ s m. home-on q false e s)))

    pub begun : Moving p g f.numbers f.words f.owners hs₁
    begun =
        record {
          of_numbers = sized.of_numbers;
          of_words_lem = sized.of_words_lem;
          of_owners = sized.of_owners;
          of_homes = ap length wrote ∙ written-long p.places p.pages P room next hs next-size long ∙ long;
          in_order_lem = in_order;
          low = λ q h s m j. low-before q h s m;
          once = λ q r hq hr s t ms mt e. sym (here-before q hq s ms) ∙ ap (first (hash_of p g) 0 f.separators) e ∙ here-before r hr t mt;
          few = omega (arith, few count fits, counted);
          homes = λ q h. home-column q h (eqb q P) refl;
        }

  -- after the last one
  module _ (ns ws os hs : List ℕ) (u : Moving p g ns ws os hs) (kept : KeptStars p g f.numbers f.words f.owners ns ws os) (settled : SettledBelow p g P ns ws os) where
    abbrev after : File
    after = lent f.separators ns ws os

    sized-after : Sized p.places p.pages after
    sized-after = record { of_separators = sized.of_separators; of_numbers = u.of_numbers; of_words_lem = u.of_words_lem; of_owners = u.of_owners }

    -- those that join the new page are on it
    joined : (q : ℕ) → q < p.pages → (s : Star) → Memᴰ s (page_stars p ns ws os q) → joins p g s.number ≡ true → q ≡ P
    joined q h s m j = go (dec_lt q P)
      where
        go : Dec (q < P) → q ≡ P
        go (yes d) = absurd (true≢false (sym j ∙ settled q d s m))
        go (no d) = omega (arith, u.low q h s m j)

    here-after : (q : ℕ) → q < p.pages → (s : Star) → Memᴰ s (page_stars p ns ws os q) → first (hash_of p (grown p g)) 0 f.separators s.number ≡ q
    here-after q h s m = go (joins p g s.number) refl
      where
        go : (t : Bool) → joins p g s.number ≡ t → first (hash_of p (grown p g)) 0 f.separators s.number ≡ q
        go true j = named-joined s.number j ∙ sym (joined q h s m j)
        go false j =
            named-kept s.number j
            ∙ ⊎_elim
            (λ (n : Memᴰ s (page_stars p f.numbers f.words f.owners q)). here-before q h s n)
            (λ (n : (q ≡ P) × (joins p g s.number ≡ true) × ((r : ℕ) × (r < p.pages) × Memᴰ s (page_stars p f.numbers f.words f.owners r))). absurd (true≢false (sym n.1 ∙ j)))
            (kept.back q h s m)

    facts-after : (q : ℕ) → q < p.pages → Sound valid_word (hash_of p (grown p g)) after q
    unfolding hash_of stars_at
    facts-after q h = record { in_order_lem = u.in_order_lem q h; at_most = (facts q h).at_most; here = here-after q h }

    sound-after : (q : ℕ) → q < p.pages → sound_at p (grown p g) after q ≡ true
    sound-after q h = facts-real p (grown p g) after q (facts-after q h)

    none-unsound : first_unsound_lem p (grown p g) after 0 p.pages ≡ p.pages
    unfolding first_unsound_lem
    none-unsound = go (dec_lt r p.pages)
      where
        r : ℕ
        r = first_unsound_lem p (grown p g) after 0 p.pages

        go : Dec (first_unsound_lem p (grown p g) after 0 p.pages < p.pages) → first_unsound_lem p (grown p g) after 0 p.pages ≡ p.pages
        go (yes d) = absurd (true≢false (sym ((such (unsound p (grown p g) after) 0 p.pages).passes (omega arith)) ∙ ap not (sound-after (first_unsound_lem p (grown p g) after 0 p.pages) d)))
        go (no d) = omega (arith, (such (unsound p (grown p g) after) 0 p.pages).high)

    same-stars : all_stars p after ≡ all_stars p f
    unfolding hash_of stars_at
    same-stars =
        rising-same 0 0 (all_stars p after) (all_stars p f)
        (gathered-rising valid_word (hash_of p (grown p g)) after 0 p.pages (λ q a h. facts-after q (omega arith)))
        (gathered-rising valid_word (hash_of p g) f 0 p.pages (λ q a h. facts q (omega arith)))
        down up
      where
        down : (s : Star) → Memᴰ s (all_stars p after) → Memᴰ s (all_stars p f)
        down s m =
            let there = gathered-member p.places after 0 p.pages s m in
            ⊎_elim
            (λ (n : Memᴰ s (page_stars p f.numbers f.words f.owners there.0)). member_gathered p.places f 0 p.pages there.0 s (omega arith) there.2 n)
            (λ (n : (there.0 ≡ P) × (joins p g s.number ≡ true) × ((r : ℕ) × (r < p.pages) × Memᴰ s (page_stars p f.numbers f.words f.owners r))).
            member_gathered p.places f 0 p.pages n.2.0 s (omega arith) (omega (arith, n.2.1)) n.2.2)
            (kept.back there.0 (omega (arith, there.2)) s there.3)

        up : (s : Star) → Memᴰ s (all_stars p f) → Memᴰ s (all_stars p after)
        up s m =
            let there = gathered-member p.places f 0 p.pages s m in
            ⊎_elim
            (λ (n : Memᴰ s (page_stars p ns ws os there.0)). member_gathered p.places after 0 p.pages there.0 s (omega arith) there.2 n)
            (λ (n : (joins p g s.number ≡ true) × Memᴰ s (page_stars p ns ws os P)). member_gathered p.places after 0 p.pages P s (omega arith) (omega (arith, room)) n.1)
            (kept.forth there.0 (omega (arith, there.2)) s there.3)

    home_after : (q : ℕ) → q < p.pages → (t : Bool) → eqb q P ≡ t → (s : Star) → Memᴰ s (page_stars p ns ws os q) → home_on p g q s ≡ home (multiplier_of p) p (grown p g) s.number
    unfolding home_on
    home_after q h true e s m = rw e
    home_after q h false e s m = rw e (sym (home-kept s.number (go (joins p g s.number) refl)))
      where
        go : (t : Bool) → joins p g s.number ≡ t → joins p g s.number ≡ false
        go true j = absurd (eqb-false q P e (joined q h s m j))
        go false j = j

    same-homes : hs ≡ homes_of p (grown p g) ns
    same-homes =
        parts_same p.places p.pages hs (homes_of p (grown p g) ns) u.of_homes (length-homes p (grown p g) (homes_of p (grown p g) ns) ns refl ∙ u.of_numbers)
        (λ q h.
        u.homes q h
        ∙ ap (padded p.places) (map_same (home_on p g q) (home_of p (grown p g)) (page_stars p ns ws os q) (home_after q h (eqb q P) refl))
        ∙ sym (homes-page p (grown p g) q ns ws os (ordered p g ns ws os hs u q h) (numbered p g ns ws os hs u q h)))

    pub all_moved : Moved p g f after hs
    all_moved = record { sized = sized-after; sound = sound-after; all_sound_lem = none-unsound; stars = same-stars; homes = same-homes }

-- the same, with the new page as the code has it
module _ (p : Parameters) (g : Growth) (f : File) (valid : valid_parameters p ≡ true) (grows : valid_growth p g ≡ true) (sized : Sized p.places p.pages f)
    (all : first_unsound_lem p g f 0 p.pages ≡ p.pages) (room : page_count p g < p.pages) (spacious : Spacious p g f.separators f.numbers)
    (added : ℕ) (is : added ≡ page_count p g) where
  pub begun-at : (hs hs₁ : List ℕ) → hs ≡ homes_of p g f.numbers
      → hs₁ ≡ paste hs (added * p.places) (drop (added * p.places) (homes_of p (grown p g) f.numbers)) p.places → Moving p g f.numbers f.words f.owners hs₁
  begun-at hs hs₁ homes rehomed = begun p g f valid grows sized all room spacious.top hs hs₁ homes _ refl spacious.room (rw is at rehomed)

  pub none-away-at : NoneAway p g f.separators f.numbers f.words f.owners
  none-away-at = none-away p g f valid grows sized all room spacious.top

  pub moved_at : (ns ws os hs : List ℕ) → Moving p g ns ws os hs → KeptStars p g f.numbers f.words f.owners ns ws os → SettledBelow p g added ns ws os
      → Moved p g f (lent f.separators ns ws os) hs
  moved_at ns ws os hs u kept settled = all_moved p g f valid grows sized all room spacious.top ns ws os hs u kept (λ r h. settled r (omega (arith, is)))
