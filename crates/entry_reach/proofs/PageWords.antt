-- The words of a sound page's stars, and what they make of the words carried to it.
use mathlib.Core.Path.{◌≡◌, ap, ◌∙◌}
use mathlib.Core.Bool.{true, not, ◌||◌}
use mathlib.Core.List.{List, ◌++◌, map}
use Prim.Native.Nat.{ℕ, ◌+◌, ◌*◌, ◌^◌, ◌≤◌, ◌<◌}
use native.Mathlib.Nat.{mul-le-mul, mul-le-mul_right}
use native.Mathlib.Omega.{arith}
use lib.Dec.{leb, ltb, eqb}
use lib.ListN.{length-map}
use borrow.Author.Tests.{le-leb, ltb-true, eq-eqb, ne_eqb}
use Rattle.hashing.specs.declared.Parameters.{Parameters}
use Rattle.hashing.specs.declared.Growth.{Growth}
use Rattle.hashing.specs.Limits.{valid_parameters}
use Rattle.hashing.proofs.Bounds.{limits}
use Rattle.pages.specs.Position.{valid_word}
use Rattle.placement.specs.Rule.{Star, pour, without}
use Rattle.placement.specs.File.{File, stars_at, gathered}
use Rattle.placement.specs.Shape.{Sized}
use Rattle.placement.specs.Hash.{hash_of, sound_at, named_page_lem}
use Rattle.placement.specs.Shape.{homes_of, home_in}
use Rattle.placement.proofs.Filters.{filter-all-on}
use Rattle.placement.proofs.Order.{pour-nil, rising-sorted}
use Rattle.placement.proofs.Sound.{sound-rising, sound-proper}
use Rattle.placement.proofs.Tested.{real_facts}
use Rattle.reach.specs.Cascade.{meeting}
use Rattle.page_separator.specs.Lists.{all, all_below}
use Rattle.page_separator.specs.Words.{home_of, number_in}
use Rattle.page_plan.specs.Gather.{group_of}
use Rattle.page_separator.specs.Probes.{homes_up_to}
use Rattle.page_separator.proofs.Lists.{all_append, all-mono}
use Rattle.page_plan.specs.Plans.{waits, homed}
use Rattle.page_plan.specs.Sources.{renamed, sourced}
use Rattle.page_plan.proofs.Sourcing.{true_stars}
use Rattle.entry_reach.specs.Entry.{Unheld, block_numbers, block_words}
use Rattle.entry_reach.specs.Pushing.{page_words}
use Rattle.entry_reach.specs.Blocks.{apart}
use Rattle.entry_reach.proofs.Items.{numbers_below, block-homed, block-sourced, block-grouped, words-all}
use Rattle.entry_reach.proofs.BlockWords.{apart-later, block_apart, block-joined}

module _ (p : Parameters) (g : Growth) (f : File) (valid : valid_parameters p ≡ true) (sized : Sized p.places p.pages f)
    (q : ℕ) (inside : q < p.pages) (sound : sound_at p g f q ≡ true) where
  one_more : q + 1 ≤ p.pages
  one_more = omega arith

  alone : (r : ℕ) → q ≤ r → r < q + 1 → sound_at p g f r ≡ true
  alone r a b = let same : r ≡ q = omega arith in rw same sound

  fits : (q + 1) * p.places ≤ p.pages * p.places
  fits = mul-le-mul_right p.places one_more

  few : (q + 1) * p.places < 2 ^ 16
  few = let l = limits p valid in omega (arith, fits, mul-le-mul l.pages_most l.places_most)

  pub page-numbers : all_below (2 ^ 31) (block_numbers p f q 1) ≡ true
  page-numbers = numbers_below p g f valid sized q 1 one_more alone

  pub page-homed : homed (hash_of p g) (page_words p g f q) ≡ true
  page-homed = block-homed p g f valid sized q 1 one_more page-numbers

  pub page-near : homes_up_to q (page_words p g f q) ≡ true
  page-near =
      all-mono (λ w. ltb (group_of q w) 1) (λ w. leb (home_of w) q) (page_words p g f q)
      (λ w e. le-leb (home_of w) q (unfold group_of in omega (arith, ltb-true (group_of q w) 1 e)))
      (block-grouped p g f valid sized q 1 one_more alone)

  pub page-sourced : (k : ℕ) → sourced f.numbers k (page_words p g f q) ≡ true
  page-sourced k = block-sourced p g f valid sized q 1 one_more k page-numbers

  pub page-named : all (λ w. eqb (named_page_lem p g f.separators (number_in w)) q) (page_words p g f q) ≡ true
  page-named =
      words-all p g f valid sized q 1 one_more alone (λ w. eqb (named_page_lem p g f.separators (number_in w)) q)
      (λ w o. eq-eqb (named_page_lem p g f.separators (number_in w)) q (omega (arith, o.named, o.least, o.most)))

  module _ (k : ℕ) (unheld : Unheld p g f k) (w : List ℕ) (before : apart p g f k q w ≡ true) where
    -- past the page
    pub apart-joined : apart p g f k (q + 1) (w ++ page_words p g f q) ≡ true
    unfolding apart
    apart-joined =
        all_append (λ x. eqb (number_in x) k || ltb (named_page_lem p g f.separators (number_in x)) (q + 1)) w (page_words p g f q)
        (apart-later p g f k q (q + 1) w (omega arith) before) (block_apart p g f valid sized q 1 one_more alone k)

    module _ (word owner : ℕ) where
      -- the page's stars
      page-stars : map (renamed f.words f.owners word owner) (waits (page_words p g f q)) ≡ stars_at p.places f q
      unfolding block_words homes_of without gathered pour hash_of
      page-stars =
          true_stars p.places q 1 0 word owner f (map (home_in p g) f.numbers) page-numbers few
          (omega (arith, fits, sized.of_numbers)) (omega (arith, fits, sized.of_words_lem)) (omega (arith, fits, sized.of_owners))
          (omega (arith, fits, sized.of_numbers, length-map f.numbers (home_in p g)))
          ∙ ap (without 0) (pour-nil 1 (stars_at p.places f q) (rising-sorted 1 (stars_at p.places f q) (sound-rising valid_word (hash_of p g) f q (real_facts p g f q sound))))
          ∙ filter-all-on (λ (s : Star). not (eqb s.number 0)) (stars_at p.places f q)
          (λ s m. ap not (ne_eqb s.number 0 (λ e. omega (arith, e, (sound-proper valid_word (hash_of p g) f q (real_facts p g f q sound) s m).0))))

      -- the page's stars and the arriving ones
      pub page-meets : map (renamed f.words f.owners word owner) (waits (w ++ page_words p g f q)) ≡ meeting (hash_of p g) f q (map (renamed f.words f.owners word owner) (waits w))
      unfolding meeting hash_of
      page-meets =
          block-joined p g f valid sized q 1 one_more alone k unheld w before word owner
          ∙ ap (λ (l : List Star). pour l (map (renamed f.words f.owners word owner) (waits w))) page-stars
