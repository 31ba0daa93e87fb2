-- The plan over all pages of a sound file, fetched: the file that the rule over the whole file gives.
use mathlib.Core.Path.{◌≡◌, refl, sym, ap, ◌∙◌}
use mathlib.Core.Bool.{Bool, true, false, not, cond}
use mathlib.Core.List.{List, [], ◌∷◌, map}
use Prim.Native.Nat.{ℕ, ◌+◌, ◌-◌, ◌*◌, ◌/◌, ◌%◌, ◌^◌, ◌≤◌, ◌<◌}
use native.Mathlib.Nat.{zero-add, zero-mul, mod-lt, div-add-mod', div-lt_iff_lt-mul}
use native.Mathlib.Omega.{arith}
use lib.Dec.{eqb, ltb}
use lib.ListN.{length, take, drop, get_or, length-map}
use lib.Seq.{paste, take_all, length-take-le, get_or-take}
use borrow.Author.Tests.{lt-ltb, ne_eqb}
use Rattle.pages.specs.Shape.{stretch}
use Rattle.buffers.proofs.Written.{pasted_whole, written-whole}
use Rattle.buffers.specs.Lists.{written}
use Rattle.hashing.specs.declared.Parameters.{Parameters}
use Rattle.hashing.specs.declared.Growth.{Growth}
use Rattle.hashing.specs.Geometry.{multiplier_of}
use Rattle.hashing.specs.Limits.{valid_parameters, valid_growth}
use Rattle.hashing.proofs.Bounds.{limits}
use Rattle.hashing.proofs.Homes.{home-pages}
use Rattle.pages.specs.Position.{valid_word}
use Rattle.placement.specs.Rule.{Star, pages, without}
use Rattle.placement.specs.File.{File, greatest, gathered, replaced}
use Rattle.placement.specs.Shape.{Sized}
use Rattle.placement.specs.Hash.{hash_of, lent}
use Rattle.placement.specs.Shape.{home_in, homes_of}
use Rattle.placement.proofs.Filters.{filter-all-on}
use Rattle.placement.proofs.Sound.{gathered-proper}
use Rattle.placement.proofs.Tested.{item_on, real_facts}
use Rattle.page_separator.specs.Lists.{all, all_below}
use Rattle.page_plan.specs.Gather.{stars_in, stretch_words}
use Rattle.page_separator.proofs.Lists.{all_cons, all-items}
use Rattle.page_plan.specs.Sources.{named_item, sourced}
use Rattle.page_plan.specs.Plans.{Planned}
use Rattle.page_plan.proofs.Applying.{applied}
use Rattle.page_plan.proofs.Sourcing.{item_home}
use Rattle.page_plan.proofs.Placed.{Gatherable, probes-real, homes-real, stretch-sourced, placed, layout, applied-layout}
use Rattle.reach.specs.Reach.{first_unsound_lem}
use Rattle.calls.specs.Spots.{spot_in, first_spot, ruled}
use Rattle.calls.proofs.Alike.{Alike, spot_alike}
use Rattle.calls.proofs.Ruled.{all_sound}
use Rattle.calls.proofs.Refusals.{items-most}
use Rattle.page_plan.proofs.Gathered.{stars_in-most}

-- a list of all pages' items is their stretch
pub whole : (b n : ℕ) (l : List ℕ) → length l ≡ n * b → stretch b 0 n l ≡ l
whole b n l e = rw (zero-mul b) (take_all (n * b) l (omega (arith, e)))

-- a surveyed file's homes
pub homes-whole : (p : Parameters) (g : Growth) (d ns : List ℕ) (n : ℕ) → length d ≡ n * p.places → length ns ≡ n * p.places
    → paste d (0 * p.places) (homes_of p g (drop (0 * p.places) ns)) ((n - 0) * p.places) ≡ homes_of p g ns
unfolding homes_of
homes-whole p g d ns n ed en =
    let none : 0 * p.places ≡ 0 = zero-mul p.places in
    let same : n - 0 ≡ n = omega arith in
    rw (none, same) (pasted_whole d (map (home_in p g) ns) (n * p.places) ed (length-map ns (home_in p g) ∙ en))

all_map : (q : ℕ → Bool) (f : ℕ → ℕ) (l : List ℕ) → ((n : ℕ) → q (f n) ≡ true) → all q (map f l) ≡ true
unfolding all
all_map q f [] t = refl
all_map q f (x ∷ l) t = all_cons q (f x) (map f l) (t x) (all_map q f l t)

pub some-pages : (p : Parameters) (g : Growth) → valid_parameters p ≡ true → valid_growth p g ≡ true → 0 < p.pages
some-pages p g valid grows = omega (arith, home-pages (multiplier_of p) p g 0 valid grows)

module _ (p : Parameters) (g : Growth) (f : File) (valid : valid_parameters p ≡ true) (grows : valid_growth p g ≡ true)
    (sized : Sized p.places p.pages f) (sound : first_unsound_lem p g f 0 p.pages ≡ p.pages) (hs : List ℕ) (homes : hs ≡ homes_of p g f.numbers) where
  item-most : (i : ℕ) → i < p.pages * p.places → get_or f.numbers i 0 ≤ greatest
  item-most i h =
      let some : 0 < p.places = (limits p valid).places_least in
      let inside : i / p.places < p.pages = (div-lt_iff_lt-mul some).1 h in
      rw (div-add-mod' i p.places) at
      (item_on p g f (i / p.places) sized inside (all_sound p g f sound (i / p.places) inside) (i % p.places) (mod-lt i some)).most

  numbers_below : all_below (2 ^ 31) f.numbers ≡ true
  numbers_below =
      all-items (λ x. ltb x (2 ^ 31)) f.numbers
      (λ i h. lt-ltb (get_or f.numbers i 0) (2 ^ 31) (omega (arith, item-most i (rw sized.of_numbers at h))))

  home-inside : (n : ℕ) → home_in p g n < p.pages
  home-inside n = go (eqb n 0)
    where
      go : (t : Bool) → cond t 0 (Rattle.hashing.specs.Home.home (multiplier_of p) p g n) < p.pages
      go true = some-pages p g valid grows
      go false = home-pages (multiplier_of p) p g n valid grows

  homes-below : all_below p.pages hs ≡ true
  unfolding homes_of
  homes-below =
      rw homes
      (all_map (λ x. ltb x p.pages) (home_in p g) f.numbers (λ n. lt-ltb (home_in p g n) p.pages (home-inside n)))

  pub homes-long : length hs ≡ p.pages * p.places
  unfolding homes_of
  homes-long = ap length homes ∙ length-map f.numbers (home_in p g) ∙ sized.of_numbers

  pub stars-inside : stars_in 0 (stretch p.places 0 p.pages f.numbers) ≤ p.pages * p.places
  stars-inside = rw (whole p.places p.pages f.numbers sized.of_numbers) (omega (arith, stars_in-most 0 f.numbers, sized.of_numbers))

  -- the file can be planned as one stretch
  pub ready : Gatherable (hash_of p g) p.places 0 p.pages f hs
  ready =
      let none : 0 + p.pages ≡ p.pages = zero-add p.pages in
      let numbers_all = whole p.places p.pages f.numbers sized.of_numbers in
      let homes-all = whole p.places p.pages hs homes-long in
      record {
        some = some-pages p g valid grows;
        few = rw none (omega (arith, items-most p valid));
        numbers = rw none (omega (arith, sized.of_numbers));
        words = rw none (omega (arith, sized.of_words_lem));
        owners = rw none (omega (arith, sized.of_owners));
        homes = rw none (omega (arith, homes-long));
        valid = rw numbers_all numbers_below;
        within = rw (none, homes-all) homes-below;
        true_homes = homes-all ∙ homes ∙ homes-real p g f.numbers ∙ ap (map (item_home (hash_of p g))) (sym numbers_all);
      }

  no-empty-star : without 0 (gathered p.places f 0 p.pages) ≡ gathered p.places f 0 p.pages
  unfolding without hash_of
  no-empty-star =
      filter-all-on (λ (s : Star). not (eqb s.number 0)) (gathered p.places f 0 p.pages)
      (λ s m.
      let some : (1 ≤ s.number) = (gathered-proper valid_word (hash_of p g) f 0 p.pages (λ q a b. real_facts p g f q (all_sound p g f sound q (omega arith))) s m).0 in
      ap not (ne_eqb s.number 0 (λ e. omega arith)))

  -- the plan, applied, is the rule over the whole file
  pub planned-ruled : (pool' planned planned' W' : List ℕ) (r : ℕ) → p.pages ≤ length planned
      → Planned p 0 p.pages [] (stretch_words p.places 0 p.pages 0 f.numbers hs) hs pool' planned planned' W' r
      → applied p.places 0 p.pages 0 0 0 pool' planned' f ≡ ruled p g f
  unfolding ruled
  planned-ruled pool' planned planned' W' r h P =
      let words : List ℕ = stretch_words p.places 0 p.pages 0 f.numbers hs in
      let none : 0 + p.pages ≡ p.pages = zero-add p.pages in
      applied-layout p 0 p.pages 0 0 0 f [] words pool' planned' W' r
      (layout p 0 p.pages [] words hs pool' planned planned' W' r P (rw none (omega (arith, homes-long))) (rw none h))
      (unfold sourced all in refl)
      (stretch-sourced (hash_of p g) p (probes-real p g) 0 p.pages f hs ready 0 0 0 0)
      ∙ ap (replaced p.places f 0)
      ((placed (hash_of p g) p (probes-real p g) 0 p.pages f hs ready 0 0 0).0
      ∙ ap (pages (hash_of p g) 0 p.pages) no-empty-star)

  -- .. so that comparing with what it fetches is comparing with the rule
  pub spot_ruled : (pool' planned' W' O' pool'' W'' O'' : List ℕ) → applied p.places 0 p.pages 0 0 0 pool' planned' f ≡ ruled p g f
      → length pool' ≡ p.pages * p.places → length W' ≡ p.pages * p.places → length O' ≡ p.pages * p.places → p.pages ≤ length planned'
      → pool'' ≡ paste pool' 0 (map (named_item f.numbers 0) (drop 0 pool')) (p.pages * p.places)
      → W'' ≡ paste W' 0 (map (named_item f.words 0) (drop 0 pool')) (p.pages * p.places)
      → O'' ≡ paste O' 0 (map (named_item f.owners 0) (drop 0 pool')) (p.pages * p.places)
      → spot_in p.pages p.places f (lent planned' pool'' W'' O'') ≡ first_spot p f (ruled p g f)
  unfolding first_spot
  spot_ruled pool' planned' W' O' pool'' W'' O'' e lp lw lo ld ep ew eo =
      spot_alike p.pages p.places f (lent planned' pool'' W'' O'') (applied p.places 0 p.pages 0 0 0 pool' planned' f) alike
      ∙ ap (spot_in p.pages p.places f) e
    where
      -- the items fetched into d are the items applied to l
      fetched : (l d : List ℕ) → length l ≡ p.pages * p.places → length d ≡ p.pages * p.places
          → paste d 0 (map (named_item l 0) pool') (p.pages * p.places) ≡ written (0 * p.places) (map (named_item l 0) (stretch p.places 0 p.pages pool')) l
      fetched l d el ed =
          pasted_whole d (map (named_item l 0) pool') (p.pages * p.places) ed (length-map pool' (named_item l 0) ∙ lp)
          ∙ sym
          (rw (whole p.places p.pages pool' lp, zero-mul p.places)
          (written-whole (map (named_item l 0) pool') l (length-map pool' (named_item l 0) ∙ lp ∙ sym el)))

      separators-written : written 0 (take p.pages planned') f.separators ≡ take p.pages planned'
      separators-written = written-whole (take p.pages planned') f.separators (length-take-le p.pages planned' ld ∙ sym sized.of_separators)

      alike : Alike p.pages p.places (lent planned' pool'' W'' O'') (applied p.places 0 p.pages 0 0 0 pool' planned' f)
      alike = unfold applied in
          record {
            separators = λ q h. sym (ap (λ (s : List ℕ). get_or s q 0) separators-written ∙ get_or-take p.pages planned' q 0 h);
            numbers = λ i h. ap (λ (s : List ℕ). get_or s i 0) (ep ∙ fetched f.numbers pool' sized.of_numbers lp);
            words = λ i h. ap (λ (s : List ℕ). get_or s i 0) (ew ∙ fetched f.words W' sized.of_words_lem lw);
            owners = λ i h. ap (λ (s : List ℕ). get_or s i 0) (eo ∙ fetched f.owners O' sized.of_owners lo);
          }
