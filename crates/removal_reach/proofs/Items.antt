-- The items of a stretch of sound pages: what a plan over them asks.
use mathlib.Core.Path.{◌≡◌, refl, ap, ◌∙◌}
use mathlib.Core.Bool.{true, not}
use mathlib.Core.List.{List, [], ◌∷◌, map}
use Prim.Native.Nat.{ℕ, suc, ◌+◌, ◌*◌, ◌/◌, ◌%◌, ◌^◌, ◌≤◌, ◌<◌}
use native.Mathlib.Nat.{add-mul, mod-lt, div-add-mod', div-lt_iff_lt-mul, mul-le-mul, mul-le-mul_right}
use native.Mathlib.Omega.{arith}
use lib.Dec.{ltb, eqb}
use lib.ListN.{length, drop, get_or, length-map, get_or-map}
use lib.Seq.{paste, get_or-take, get_or-drop}
use borrow.Author.Tests.{lt-ltb, ne_eqb, not-false}
use Rattle.pages.specs.Shape.{stretch}
use Rattle.hashing.specs.declared.Parameters.{Parameters}
use Rattle.hashing.specs.declared.Growth.{Growth}
use Rattle.hashing.specs.Limits.{valid_parameters}
use Rattle.hashing.proofs.Bounds.{limits}
use Rattle.pages.specs.Position.{valid_word}
use Rattle.placement.specs.Rule.{Star, Hash, without}
use Rattle.placement.specs.File.{File, gathered, greatest}
use Rattle.placement.specs.Shape.{Sized}
use Rattle.placement.specs.Hash.{hash_of, sound_at}
use Rattle.placement.specs.Shape.{home_in, homes_of}
use Rattle.placement.proofs.Filters.{filter-all-on}
use Rattle.placement.proofs.Sound.{AllSound, gathered-proper}
use Rattle.placement.proofs.Tested.{item_on, real_facts}
use Rattle.page_separator.specs.Lists.{all, all_below}
use Rattle.page_separator.proofs.Lists.{all_cons}
use Rattle.reach.specs.Reach.{first_unsound_lem}
use Rattle.reach.proofs.Search.{such}
use Rattle.reach.proofs.Surveyed.{unsound}
use Rattle.page_plan.proofs.Sourcing.{item_home, length-stretch}
use Rattle.page_plan.proofs.Placed.{Gatherable, surveyed-homes}
use Rattle.removal_reach.specs.Stretch.{StretchReady}

-- a bound that every item keeps
pub all-below : (b : ℕ) (l : List ℕ) → ((i : ℕ) → i < length l → get_or l i 0 < b) → all_below b l ≡ true
unfolding all
all-below b [] t = refl
all-below b (x ∷ l) t = all_cons (λ y. ltb y b) x l (lt-ltb x b (t 0 (omega arith))) (all-below b l (λ i h. t (suc i) (omega arith)))

-- the stretch is sound where the first unsound page is past it
pub all_sound : (p : Parameters) (g : Growth) (f : File) (lo n : ℕ) → lo + n ≤ first_unsound_lem p g f lo n → (q : ℕ) → lo ≤ q → q < lo + n → sound_at p g f q ≡ true
unfolding first_unsound_lem
all_sound p g f lo n h q a b = not-false (sound_at p g f q) ((such (unsound p g f) lo n).before q a (omega arith))

pub real_sound : (p : Parameters) (g : Growth) (f : File) (lo n : ℕ) → ((q : ℕ) → lo ≤ q → q < lo + n → sound_at p g f q ≡ true)
    → AllSound valid_word (hash_of p g) f lo n
real_sound p g f lo n sound q a b = real_facts p g f q (sound q a b)

-- no star of a sound stretch has the number 0
pub all-numbered : (p : Parameters) (g : Growth) (f : File) (lo n : ℕ) → ((q : ℕ) → lo ≤ q → q < lo + n → sound_at p g f q ≡ true)
    → without 0 (gathered p.places f lo n) ≡ gathered p.places f lo n
unfolding without hash_of
all-numbered p g f lo n sound =
    filter-all-on (λ (s : Star). not (eqb s.number 0)) (gathered p.places f lo n)
    (λ s m. ap not (ne_eqb s.number 0 (λ z. omega (arith, (gathered-proper valid_word (hash_of p g) f lo n (real_sound p g f lo n sound) s m).0))))

module _ (p : Parameters) (f : File) (valid : valid_parameters p ≡ true) (sized : Sized p.places p.pages f) (lo n : ℕ) (inside : lo + n ≤ p.pages) where
  long : (lo + n) * p.places ≤ p.pages * p.places
  long = mul-le-mul_right p.places inside

  count : length (stretch p.places lo n f.numbers) ≡ n * p.places
  count = length-stretch p.places lo n f.numbers (omega (arith, long, sized.of_numbers))

  module _ (g : Growth) (sound : (q : ℕ) → lo ≤ q → q < lo + n → sound_at p g f q ≡ true) where
    -- item i stands on page lo + i div b
    item : (i : ℕ) → i < n * p.places
        → (get_or (stretch p.places lo n f.numbers) i 0 ≤ greatest) × (home_in p g (get_or (stretch p.places lo n f.numbers) i 0) < lo + n)
    item i h =
        let places = p.places in
        let some : 0 < p.places = (limits p valid).places_least in
        let low : i / p.places < n = (div-lt_iff_lt-mul some).1 h in
        let q : ℕ = lo + i / p.places in
        let at : lo * p.places + i ≡ q * p.places + i % p.places = omega (arith, add-mul lo (i / p.places) p.places, div-add-mod' i p.places) in
        let same : get_or (stretch p.places lo n f.numbers) i 0 ≡ get_or f.numbers (q * p.places + i % p.places) 0 =
        get_or-take (n * p.places) (drop (lo * p.places) f.numbers) i 0 h ∙ get_or-drop (lo * p.places) f.numbers i 0 ∙ ap (λ (j : ℕ). get_or f.numbers j 0) at in
        let there = item_on p g f q sized (omega arith) (sound q (omega arith) (omega arith)) (i % p.places) (mod-lt i some) in
        rw same (there.most, omega (arith, there.homed))

    pub numbers_below : all_below (2 ^ 31) (stretch p.places lo n f.numbers) ≡ true
    numbers_below = all-below (2 ^ 31) (stretch p.places lo n f.numbers) (λ i h. omega (arith, (item i (rw count at h)).0))

    pub homes-below : all_below (lo + n) (map (item_home (hash_of p g)) (stretch p.places lo n f.numbers)) ≡ true
    unfolding hash_of item_home
    homes-below =
        all-below (lo + n) (map (item_home (hash_of p g)) (stretch p.places lo n f.numbers))
        (λ i h.
        rw (get_or-map (item_home (hash_of p g)) (stretch p.places lo n f.numbers) i 0)
        (item i (rw (length-map (stretch p.places lo n f.numbers) (item_home (hash_of p g)), count) at h)).1)

  module _ (some : 0 < n) (hs : List ℕ) (homes : length hs ≡ p.pages * p.places)
      (below : all_below (2 ^ 31) (stretch p.places lo n f.numbers) ≡ true) (within : all_below (lo + n) (stretch p.places lo n hs) ≡ true) where
    few : p.pages * p.places ≤ 32768
    few = omega (arith, mul-le-mul (limits p valid).pages_most (limits p valid).places_most)

    pub plannable-stretch : (waiting poolowners : List ℕ) → length waiting ≡ p.pages * p.places → length poolowners ≡ p.pages * p.places → StretchReady p lo n f hs waiting poolowners
    plannable-stretch waiting poolowners ew eo =
        let l = limits p valid in
        record {
          places_most = l.places_most;
          some = some;
          pages_most = omega (arith, l.pages_most);
          separators_long = omega (arith, sized.of_separators);
          numbers_long = omega (arith, long, sized.of_numbers);
          words_long = omega (arith, long, sized.of_words_lem);
          owners_long = omega (arith, long, sized.of_owners);
          pool_long = omega (arith, long);
          waiting_long = omega (arith, long);
          poolowners_long = omega (arith, long);
          waiting-most = omega (arith, few);
          valid = below;
          within = within;
        }

    pub ready-stretch : (H : Hash) → stretch p.places lo n hs ≡ map (item_home H) (stretch p.places lo n f.numbers) → Gatherable H p.places lo n f hs
    ready-stretch H e =
        record {
          some = some;
          few = omega (arith, long, few);
          numbers = omega (arith, long, sized.of_numbers);
          words = omega (arith, long, sized.of_words_lem);
          owners = omega (arith, long, sized.of_owners);
          homes = omega (arith, long);
          valid = below;
          within = within;
          true_homes = e;
        }

-- a surveyed stretch, whose homes the pool holds
module _ (p : Parameters) (g : Growth) (f : File) (valid : valid_parameters p ≡ true) (sized : Sized p.places p.pages f) (lo n : ℕ) (some : 0 < n) (inside : lo + n ≤ p.pages)
    (sound : lo + n ≤ first_unsound_lem p g f lo n) (pool pool' : List ℕ) (size : length pool ≡ p.pages * p.places)
    (e : pool' ≡ paste pool (lo * p.places) (homes_of p g (drop (lo * p.places) f.numbers)) (n * p.places)) where
  surveyed : stretch p.places lo n pool' ≡ map (item_home (hash_of p g)) (stretch p.places lo n f.numbers)
  surveyed =
      ap (stretch p.places lo n) e
      ∙ surveyed-homes p g p.places lo n pool f.numbers
      (omega (arith, mul-le-mul_right p.places inside)) (omega (arith, mul-le-mul_right p.places inside, sized.of_numbers))

  below : all_below (2 ^ 31) (stretch p.places lo n f.numbers) ≡ true
  below = numbers_below p f valid sized lo n inside g (all_sound p g f lo n sound)

  within : all_below (lo + n) (stretch p.places lo n pool') ≡ true
  within = rw surveyed (homes-below p f valid sized lo n inside g (all_sound p g f lo n sound))

  pub plannable-surveyed : (waiting poolowners : List ℕ) → length pool' ≡ p.pages * p.places → length waiting ≡ p.pages * p.places → length poolowners ≡ p.pages * p.places
      → StretchReady p lo n f pool' waiting poolowners
  plannable-surveyed waiting poolowners ep ew eo = plannable-stretch p f valid sized lo n inside some pool' ep below within waiting poolowners ew eo

  pub ready-surveyed : length pool' ≡ p.pages * p.places → Gatherable (hash_of p g) p.places lo n f pool'
  ready-surveyed ep = ready-stretch p f valid sized lo n inside some pool' ep below within (hash_of p g) surveyed
