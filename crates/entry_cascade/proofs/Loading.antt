-- A page value as loaded: its places are the page's items, and its stars' words those of the page.
use mathlib.Core.Path.{◌≡◌, sym, ap, ◌∙◌}
use mathlib.Core.Bool.{true}
use mathlib.Core.List.{List}
use Prim.Native.Nat.{ℕ, ◌+◌, ◌-◌, ◌*◌, ◌^◌, ◌≤◌, ◌<◌}
use native.Mathlib.Nat.{zero-add, one-mul, mul-le-mul}
use native.Mathlib.Omega.{arith}
use lib.Dec.{ltb}
use lib.ListN.{length, take, drop, replicate, length-map, length-take, length-drop, get_or-replicate}
use lib.Seq.{slice, paste, take-paste, length-paste, get_or-take}
use borrow.Author.Tests.{lt-ltb, ltb-true}
use Rattle.buffers.proofs.Lists.{drop-take}
use Rattle.hashing.specs.declared.Parameters.{Parameters}
use Rattle.hashing.specs.declared.Growth.{Growth}
use Rattle.hashing.specs.declared.Geometry.{Geometry}
use Rattle.hashing.specs.Limits.{valid_parameters}
use Rattle.hashing.proofs.Bounds.{limits}
use Rattle.pages.specs.declared.page.Page.{Page}
use Rattle.pages.specs.Page.{part}
use Rattle.pages.specs.Shape.{page_at, stretch}
use Rattle.pages.proofs.Parts.{page-fits, take-filled, filled-length}
use Rattle.placement.specs.File.{File}
use Rattle.placement.specs.Shape.{Sized}
use Rattle.placement.specs.Hash.{sound_at}
use Rattle.placement.specs.Shape.{homes_of, home_in}
use Rattle.soundness.specs.Survey.{Tested}
use Rattle.soundness.proofs.Items.{sound-loaded, homes-loaded}
use Rattle.reach.specs.Known.{Known}
use Rattle.page_separator.specs.Lists.{all_below}
use Rattle.page_plan.specs.Gather.{words_from, stars_in}
use Rattle.page_separator.proofs.Lists.{all-mono, all-items}
use Rattle.page_plan.proofs.Items.{words_count, words-length}
use Rattle.entry_reach.specs.Entry.{block_numbers, block_words}
use Rattle.entry_reach.proofs.Items.{numbers_count, stretch-homes, homes-below}
use Rattle.entry_reach.specs.Pushing.{page_words}
use Rattle.entry_cascade.specs.Arriving.{KnownValue}
use Rattle.entry_reach.proofs.PageWords.{page-numbers}

-- all zeros
pub zeros-below : (n : ℕ) → n ≤ 32 → all_below 1024 (take n (replicate 32 0)) ≡ true
zeros-below n h =
    all-items (λ x. ltb x 1024) (take n (replicate 32 0))
    (λ i a.
    let short : i < n = omega (arith, length-take n (replicate {A = ℕ} 32 0)) in
    rw (get_or-take {A = ℕ} n (replicate 32 0) i 0 short, get_or-replicate {A = ℕ} 32 i 0 0 (omega arith)))

module _ (p : Parameters) (g : Growth) (f : File) (valid : valid_parameters p ≡ true) (sized : Sized p.places p.pages f) (q : ℕ) (inside : q < p.pages) where
  page-part : (l : List ℕ) → stretch p.places q 1 l ≡ part p.places q l
  unfolding part
  page-part l = ap (λ (n : ℕ). take n (drop (q * p.places) l)) (one-mul p.places)

  -- the page's items, as they are counted
  pub slice-page : slice (q * p.places) (q * p.places + p.places) f.numbers ≡ block_numbers p f q 1
  slice-page =
      let count : q * p.places + p.places - q * p.places ≡ 1 * p.places = omega (arith, one-mul p.places) in
      drop-take (q * p.places) (q * p.places + p.places) f.numbers ∙ ap (λ (n : ℕ). take n (drop (q * p.places) f.numbers)) count

  pub stars-count : length (page_words p g f q) ≡ stars_in 0 (block_numbers p f q 1)
  unfolding block_words homes_of
  stars-count =
      rw (stretch-homes p g f valid sized q 1 (omega arith))
      (words_count (q * p.places) 0 (block_numbers p f q 1) (homes_of p g (block_numbers p f q 1)) (omega (arith, length-map (block_numbers p f q 1) (home_in p g))))

  pub stars-room : length (page_words p g f q) ≤ p.places
  unfolding block_words
  stars-room =
      omega (
        arith,
        words-length (q * p.places) 0 (block_numbers p f q 1) (stretch p.places q 1 (homes_of p g f.numbers)),
        numbers_count p g f valid sized q 1 (omega arith),
        one-mul p.places,
      )

  pub page-few : q * p.places + p.places < 2 ^ 16
  page-few =
      let l = limits p valid in
      omega (arith, page-fits p.places p.pages q inside sized.of_numbers, sized.of_numbers, mul-le-mul l.pages_most l.places_most)

  module _ (v : Page) (loaded : v ≡ page_at p.places q f.numbers f.words f.owners) where
    pub loaded-numbers : take p.places v.numbers ≡ block_numbers p f q 1
    loaded-numbers =
        ap (λ (x : Page). take p.places x.numbers) loaded
        ∙ take-filled p.places q f.numbers (page-fits p.places p.pages q inside sized.of_numbers)
        ∙ sym (page-part f.numbers)

    pub loaded-long : p.places ≤ length v.numbers
    loaded-long =
        omega (
          arith,
          ap (λ (x : Page). length x.numbers) loaded,
          filled-length p.places q f.numbers (page-fits p.places p.pages q inside sized.of_numbers) (limits p valid).places_most,
          (limits p valid).places_most,
        )

    module _ (sound : sound_at p g f q ≡ true) where
      pub loaded-below : all_below (2 ^ 31) (take p.places v.numbers) ≡ true
      loaded-below = rw loaded-numbers (page-numbers p g f valid sized q inside sound)

      -- with the homes that the test of the page tells
      module _ (hs : List ℕ) (homes : take p.places hs ≡ homes_of p g (take p.places v.numbers)) where
        pub homes-long : p.places ≤ length hs
        unfolding homes_of
        homes-long =
            omega (
              arith,
              ap length homes,
              length-map (take p.places v.numbers) (home_in p g),
              ap length loaded-numbers,
              numbers_count p g f valid sized q 1 (omega arith),
              one-mul p.places,
              length-take p.places hs,
            )

        pub homes-small : all_below 1024 (take p.places hs) ≡ true
        homes-small =
            rw (homes, loaded-numbers)
            (all-mono (λ x. ltb x (q + 1)) (λ x. ltb x 1024) (homes_of p g (block_numbers p f q 1))
            (λ x e. lt-ltb x 1024 (omega (arith, ltb-true x (q + 1) e, (limits p valid).pages_most)))
            (homes-below p g f valid sized q 1 (omega arith) (λ r a b. let same : r ≡ q = omega arith in rw same sound)))

        pub loaded-words : words_from (q * p.places) 0 (take p.places v.numbers) (take p.places hs) ≡ page_words p g f q
        unfolding block_words
        loaded-words = rw (homes, loaded-numbers, stretch-homes p g f valid sized q 1 (omega arith))

-- a known page, by its value
pub known-value : (g : Geometry) (f : File) → Sized g.parameters.places g.parameters.pages f → (q : ℕ) → q < g.parameters.pages
    → (v : Page) → v ≡ page_at g.parameters.places q f.numbers f.words f.owners → (pool : List ℕ)
    → Known g.parameters g.growth f pool q → KnownValue g f.separators q v.numbers v.words v.owners pool
known-value g f sized q inside v loaded pool k =
    record {
      sound =
          sound-loaded g.parameters g.growth f q v (within sized.of_numbers) (within sized.of_words_lem) (within sized.of_owners) loaded
          ∙ k.sound inside;
      kept = k.kept inside ∙ sym (homes-loaded g.parameters g.growth q f.numbers f.words f.owners v (within sized.of_numbers) loaded);
    }
  where
    within : {n : ℕ} → n ≡ g.parameters.pages * g.parameters.places → q * g.parameters.places + g.parameters.places ≤ n
    within e = page-fits g.parameters.places g.parameters.pages q inside e

-- what the test of a known page tells
pub known-tested : (g : Geometry) (seps : List ℕ) (page : ℕ) (ns ws os pool hs : List ℕ) → KnownValue g seps page ns ws os pool → length hs ≡ 32
    → g.parameters.places ≤ 32 → page * g.parameters.places + g.parameters.places ≤ length pool
    → Tested g seps page ns ws os (paste hs 0 (drop (page * g.parameters.places) pool) g.parameters.places) true
unfolding part
known-tested g seps page ns ws os pool hs k long few inside =
    record {
      sound = sym k.sound;
      long = length-paste hs 0 (drop at pool) places (omega arith) enough ∙ long;
      homed = λ _. ap (λ (n : ℕ). take n (paste hs 0 (drop at pool) places)) (sym (zero-add places)) ∙ take-paste hs 0 (drop at pool) places (omega arith) enough ∙ k.kept;
    }
  where
    places : ℕ
    places = g.parameters.places

    at : ℕ
    at = page * places

    enough : places ≤ length (drop at pool)
    enough = omega (arith, length-drop at pool)
