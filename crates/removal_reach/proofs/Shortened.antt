-- The front of a surveyed stretch planned without a star and applied. Where it ends early and the later pages are the rule's, this is the
-- rule over the whole stretch.
use mathlib.Core.Path.{◌≡◌, refl, sym, ap, subst, ◌∙◌}
use mathlib.Core.Bool.{true}
use mathlib.Core.List.{List, [], map, map-append}
use Prim.Native.Nat.{ℕ, ◌+◌, ◌-◌, ◌*◌, ◌≤◌, ◌<◌}
use native.Mathlib.Nat.{add-zero, le_refl, mul-le-mul_right}
use native.Mathlib.Decide.{dec_lt}
use native.Mathlib.Omega.{arith}
use lib.ListN.{length, take, length-map}
use lib.Seq.{take_all, take_at}
use Rattle.hashing.specs.declared.Parameters.{Parameters}
use Rattle.hashing.specs.declared.Growth.{Growth}
use Rattle.hashing.specs.Limits.{valid_parameters}
use Rattle.pages.specs.Shape.{stretch}
use Rattle.pages.specs.Position.{valid_word}
use Rattle.placement.specs.Rule.{Star, Hash, Contents, pages, without}
use Rattle.placement.specs.Shape.{collected}
use Rattle.placement.specs.File.{File, pages_at, gathered, replaced}
use Rattle.placement.specs.Shape.{Sized}
use Rattle.placement.specs.Hash.{hash_of, sound_at}
use Rattle.placement.proofs.Composition.{take-pages}
use Rattle.placement.proofs.Mapping.{mapped, collected-map}
use Rattle.page_separator.specs.Lists.{all}
use Rattle.page_plan.specs.Gather.{stretch_words, stars_in, grouped}
use Rattle.page_plan.specs.Sources.{renamed, sourced}
use Rattle.page_plan.specs.Plans.{waits, homed, plans, remains}
use Rattle.page_plan.proofs.Items.{words_count}
use Rattle.page_plan.proofs.Pouring.{length-waits}
use Rattle.page_plan.proofs.RuleOverWords.{plans-are}
use Rattle.page_plan.proofs.Applying.{applied, renamed_keeps}
use Rattle.page_plan.proofs.Sourcing.{true_stars, length-stretch}
use Rattle.page_plan.proofs.Stretch.{length-plans}
use Rattle.page_plan.proofs.Blocks.{plans-add}
use Rattle.page_plan.proofs.Placed.{Gatherable, probes-real, placed, stretch-homed, stretch-sourced, left-count, layout, applied-layout}
use Rattle.removal_reach.specs.Changed.{Changed}
use Rattle.removal_reach.proofs.Items.{real_sound, all-numbered, numbers_below}
use Rattle.removal_reach.proofs.Front.{counted, front-file}

-- the first pages of a plan that is the rule's
front-pages : (H : Hash) (q : Parameters) (g : Star → Star) (lo r m : ℕ) (l : List ℕ) (w : List Star) → map (mapped g) (plans q lo 0 (r + m) [] l) ≡ pages H lo (r + m) w
    → map (mapped g) (plans q lo 0 r [] l) ≡ pages H lo r w
front-pages H q g lo r m l w e =
    let front : List Contents = plans q lo 0 r [] l in
    let back : List Contents = plans q lo (0 + r) m (remains q lo 0 r [] l) l in
    sym (take_at (map (mapped g) front) (map (mapped g) back) r (length-map front (mapped g) ∙ length-plans q lo 0 r [] l))
    ∙ ap (take r) (sym (map-append (mapped g) front back) ∙ ap (map (mapped g)) (sym (plans-add q lo 0 r m [] l).0) ∙ e)
    ∙ take-pages H lo r m w

module _ (p : Parameters) (g : Growth) (f : File) (k : ℕ) (valid : valid_parameters p ≡ true) (sized : Sized p.places p.pages f) (lo n : ℕ) (inside : lo + n ≤ p.pages)
    (sound : (q : ℕ) → lo ≤ q → q < lo + n → sound_at p g f q ≡ true) (hs : List ℕ) (R : Gatherable (hash_of p g) p.places lo n f hs)
    (pool planned planned' : List ℕ) (r : ℕ) (long : lo + n ≤ length planned)
    (C : Changed p lo n (stretch_words p.places lo n k f.numbers hs) f.numbers hs pool planned planned' r) where
  abbrev H : Hash
  H = hash_of p g

  abbrev l : List ℕ
  l = stretch_words p.places lo n k f.numbers hs

  abbrev named : Star → Star
  named = renamed f.words f.owners 0 0

  abbrev w : List Star
  w = without k (gathered p.places f lo n)

  abbrev m : ℕ
  m = n - r

  sum : n ≡ r + m
  sum = omega (arith, C.high)

  items : (lo + r) * p.places ≤ (lo + n) * p.places
  items = mul-le-mul_right p.places (omega (arith, C.high))

  planned-front : map (mapped named) (plans p lo 0 r [] l) ≡ pages H lo r w
  planned-front =
      front-pages H p named lo r m l w
      (subst (λ (i : ℕ). map (mapped named) (plans p lo 0 i [] l) ≡ pages H lo i w) sum (placed H p (probes-real p g) lo n f hs R k 0 0).0)

  applied-front : applied p.places lo r 0 0 0 pool planned' f ≡ replaced p.places f lo (pages H lo r w)
  applied-front =
      applied-layout p lo r 0 0 0 f [] l pool planned' past (length past)
      (layout p lo r [] l hs pool planned planned' past (length past)
      (record { sources = C.sources; separators_are = C.separators_are; passed = take_all (length past) past (le_refl (length past)); counted = refl })
      (omega (arith, items, R.homes)) (omega (arith, long, C.high)))
      (unfold sourced all in refl) (stretch-sourced H p (probes-real p g) lo n f hs R k 0 0 0)
      ∙ ap (replaced p.places f lo) planned-front
    where
      past : List ℕ
      past = remains p lo 0 r [] l

  -- the stars planned there are so many
  kept-count : length (collected (pages H lo r w)) + length (remains p lo 0 r [] l) ≡ length (grouped lo 0 r l)
  kept-count =
      let both = rw (add-zero lo) at (plans-are H p (probes-real p g) lo 0 r [] l (unfold homed all in refl) (unfold all in refl) (stretch-homed H p (probes-real p g) lo n f hs R k 0 0)) in
      let words : List ℕ = grouped lo 0 r l in
      omega (
        arith,
        counted H lo r (waits words),
        ap (λ (cs : List Contents). length (collected cs)) both.0,
        ap length both.1,
        length-waits words,
        length-waits (remains p lo 0 r [] l),
        ap (λ (cs : List Contents). length (collected cs)) (sym planned-front),
        ap length (collected-map named (renamed_keeps f.words f.owners 0 0) (plans p lo 0 r [] l)),
        length-map (collected (plans p lo 0 r [] l)) named,
      )

  front-sound : (q : ℕ) → lo ≤ q → q < lo + r → sound_at p g f q ≡ true
  front-sound q a b = sound q a (omega (arith, C.high))

  -- .. and so many stood there
  stored-count : length (gathered p.places f lo r) ≡ stars_in 0 (stretch p.places lo r f.numbers)
  stored-count =
      let count : (l : List ℕ) → (lo + n) * p.places ≤ length l → length (stretch p.places lo r l) ≡ r * p.places = λ l h. length-stretch p.places lo r l (omega (arith, items)) in
      ap length (sym (all-numbered p g f lo r front-sound))
      ∙ left-count named (stretch_words p.places lo r 0 f.numbers hs) (without 0 (gathered p.places f lo r))
      (true_stars p.places lo r 0 0 0 f hs (numbers_below p f valid sized lo r (omega (arith, inside, C.high)) g front-sound)
      (omega (arith, items, R.few)) (omega (arith, items, R.numbers)) (omega (arith, items, R.words)) (omega (arith, items, R.owners)) (omega (arith, items, R.homes)))
      ∙ words_count (lo * p.places) 0 (stretch p.places lo r f.numbers) (stretch p.places lo r hs) (omega (arith, count f.numbers R.numbers, count hs R.homes))

  module _ (ruled : r < n → pages_at p.places f (lo + r) (n - r) ≡ pages H (lo + r) (n - r) (gathered p.places f (lo + r) (n - r))) where
    pub shortened : applied p.places lo r 0 0 0 pool planned' f ≡ replaced p.places f lo (pages H lo n w)
    unfolding hash_of
    shortened = applied-front ∙ go (dec_lt r n)
      where
        front : ℕ → List Contents
        front i = pages H lo r (without k (gathered p.places f lo i))

        ended : r < n → length (collected (pages H lo r w)) + 1 ≡ length (gathered p.places f lo r)
        ended h = omega (arith, C.fewer h, kept-count, stored-count)

        go : Dec (r < n) → replaced p.places f lo (pages H lo r w) ≡ replaced p.places f lo (pages H lo n w)
        go (no h) = ap (λ (i : ℕ). replaced p.places f lo (pages H lo i w)) (omega (arith, h, C.high))
        go (yes h) =
            subst (λ (i : ℕ). replaced p.places f lo (front i) ≡ replaced p.places f lo (pages H lo i (without k (gathered p.places f lo i)))) (sym sum)
            (sym (front-file valid_word H p.pages f sized lo r m k (omega (arith, inside, sum)) (real_sound p g f lo (r + m) (λ q a b. sound q a (omega (arith, sum))))
            (omega (arith, ended h, ap (λ (i : ℕ). length (collected (front i))) sum)) (ruled h)))
