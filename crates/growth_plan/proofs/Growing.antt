-- A growth or a shrinking: the homes under the growth state `next`, and that the rule over all pages is what the code leaves.
use mathlib.Core.Path.{◌≡◌, refl, sym, ap, subst, ◌∙◌}
use mathlib.Core.Bool.{Bool, true, false, cond}
use mathlib.Core.List.{List, [], ◌∷◌, ◌++◌, map}
use Prim.Native.Nat.{ℕ, zero, suc, ◌+◌, ◌-◌, ◌*◌, ◌/◌, ◌%◌, ◌^◌, ◌≤◌, ◌<◌}
use native.Mathlib.Nat.{zero-add, zero-mul, sub-zero, mul-le-mul_right, div-lt_iff_lt-mul, div-add-mod', mod-lt}
use native.Mathlib.Omega.{arith}
use lib.Dec.{ltb, eqb}
use lib.ListN.{length, get_or, set, take, drop, length-map, take-append-drop, get_or-map}
use lib.Seq.{paste}
use borrow.Author.Tests.{lt-ltb, le-ltb}
use Rattle.pages.specs.Shape.{stretch}
use Rattle.hashing.specs.declared.Parameters.{Parameters}
use Rattle.hashing.specs.declared.Growth.{Growth}
use Rattle.hashing.specs.Geometry.{multiplier_of, highest, grown, is_ungrown, shrunk}
use Rattle.hashing.specs.Home.{home}
use Rattle.hashing.specs.Limits.{valid_parameters, valid_growth}
use Rattle.hashing.proofs.Bounds.{limits, growth_within, spread}
use Rattle.hashing.proofs.Homes.{grown-valid}
use Rattle.hashing.proofs.Shrinking.{shrunk-valid}
use Rattle.placement.specs.Rule.{Hash, left, without}
use Rattle.placement.specs.File.{File, gathered}
use Rattle.placement.specs.Shape.{Sized}
use Rattle.placement.specs.Hash.{hash_of, sound_at}
use Rattle.placement.specs.Shape.{home_in, homes_of}
use Rattle.placement.proofs.Probing.{homed-real}
use Rattle.placement.proofs.Tested.{item_on}
use Rattle.home_update.proofs.Rehomed.{home-shrunk}
use Rattle.page_separator.specs.Lists.{all_below}
use Rattle.reach.specs.Reach.{is_empty, first_unsound_lem}
use Rattle.reach.proofs.Search.{such}
use Rattle.reach.proofs.Surveyed.{unsound}
use Rattle.buffers.proofs.Lists.{map-take, map-drop}
use Rattle.buffers.proofs.Copies.{Copied, turn, unread}
use Rattle.buffers.proofs.Written.{pasted_whole}
use Rattle.page_plan.proofs.Sourcing.{item_home}
use Rattle.page_plan.proofs.Placed.{Gatherable, probes-real, homes-real}
use Rattle.page_plan.specs.declared.outcome.Outcome.{Outcome}
use Rattle.page_plan.specs.declared.outcome.Outcome.TheVariants.{On, Unsound, Overflows}
use Rattle.removal_reach.specs.Stretch.{StretchReady, fitting, restretched}
use Rattle.growth_plan.specs.Growth.{state_after, Movable, first_moved_lem, HomesStay, growth_answer, growth_file, GrowsInPlace}
use Rattle.removal_reach.proofs.Ruled.{fitting-is, restretched-is}
use Rattle.removal_reach.proofs.Items.{all-below, all_sound, all-numbered, numbers_below, plannable-stretch, ready-stretch}

-- homes, item by item

-- the first i items have their homes under the growth state `next`
abbrev pub Rehomed : Parameters → Growth → Growth → List ℕ → List ℕ → ℕ → Type 0
Rehomed p g next ns homes i = Copied (homes_of p g ns) 0 (homes_of p next ns) homes i

same-front : (h h' : ℕ → ℕ) (n : ℕ) (ns : List ℕ) → ((i : ℕ) → i < n → h' (get_or ns i 0) ≡ h (get_or ns i 0)) → take n (map h' ns) ≡ take n (map h ns)
same-front h h' zero ns t = refl
same-front h h' (suc n) [] t = refl
same-front h h' (suc n) (x ∷ ns) t = rw (t 0 (omega arith), same-front h h' n ns (λ i k. t (suc i) (omega arith)))

-- .. where they have them already
pub rehomed-front : (back : Bool) (p : Parameters) (g : Growth) (ns homes : List ℕ) (i : ℕ) → homes ≡ homes_of p g ns → HomesStay back p g ns
    → i ≡ first_moved_lem back p g → Rehomed p g (state_after back p g) ns homes i
unfolding homes_of
rehomed-front back p g ns homes i e stay at =
    record {
      is =
          e
          ∙ sym (take-append-drop i (homes_of p g ns))
          ∙ ap (λ (l : List ℕ). l ++ drop i (homes_of p g ns))
          (sym (same-front (home_in p g) (home_in p (state_after back p g)) i ns (λ j h. stay.same j (omega arith))))
          ∙ rw (zero-add i);
      kept = ap length e;
    }

module _ (p : Parameters) (g next : Growth) (ns homes : List ℕ) (i : ℕ) (R : Rehomed p g next ns homes i) where
  pub homes-long : length homes ≡ length ns
  unfolding homes_of
  homes-long = R.kept ∙ length-map ns (home_in p g)

  pub home-there : i < length ns → get_or homes i 0 ≡ home_in p g (get_or ns i 0)
  unfolding homes_of
  home-there h =
      rw (zero-add i) at
      (unread (homes_of p g ns) 0 (homes_of p next ns) homes i
      (omega (arith, length-map ns (home_in p g))) (omega (arith, length-map ns (home_in p next))) R)
      ∙ get_or-map (home_in p g) ns i 0

  pub rehomed-next : (x : ℕ) → i < length ns → x ≡ home_in p next (get_or ns i 0) → Rehomed p g next ns (set homes i x) (i + 1)
  unfolding homes_of
  rehomed-next x h e =
      rw (zero-add i) at
      (turn (homes_of p g ns) 0 (homes_of p next ns) homes i x
      (omega (arith, length-map ns (home_in p g))) (omega (arith, length-map ns (home_in p next)))
      (e ∙ sym (get_or-map (home_in p next) ns i 0)) R)

  pub rehomed-all : i ≡ length ns → homes ≡ homes_of p next ns
  unfolding homes_of
  rehomed-all e =
      R.is
      ∙ pasted_whole (homes_of p g ns) (homes_of p next ns) i
      (length-map ns (home_in p g) ∙ sym e) (length-map ns (home_in p next) ∙ sym e)

-- "Only the page given back loses its stars"
item-shrunk : (p : Parameters) (g : Growth) → valid_parameters p ≡ true → valid_growth p g ≡ true → is_ungrown g ≡ false → (n : ℕ)
    → home_in p g n < highest p g → home_in p (shrunk p g) n ≡ home_in p g n
item-shrunk p g valid grows old n = go (eqb n 0)
  where
    go : (t : Bool) → cond t 0 (home (multiplier_of p) p g n) < highest p g
        → cond t 0 (home (multiplier_of p) p (shrunk p g) n) ≡ cond t 0 (home (multiplier_of p) p g n)
    go true h = refl
    go false h = home-shrunk p g valid old grows (multiplier_of p) n (λ e. omega arith)

pub next-valid : (back : Bool) (p : Parameters) (g : Growth) → valid_parameters p ≡ true → valid_growth p g ≡ true → Movable back p g → valid_growth p (state_after back p g) ≡ true
next-valid true p g v w m = shrunk-valid p g v m w
next-valid false p g v w m = grown-valid p g v w m

-- a growth, where it is not a shrinking

-- of a file that is still the one before
pub still-done : (p : Parameters) (g next : Growth) (f f₁ f' : File) (page : ℕ) (r : Outcome) → f₁ ≡ f
    → (r ≡ growth_answer p g f₁ next page) × (f' ≡ growth_file p g f₁ next) → (r ≡ growth_answer p g f next page) × (f' ≡ growth_file p g f next)
still-done p g next f f₁ f' page r e d = subst (λ (x : File). (r ≡ growth_answer p g x next page) × (f' ≡ growth_file p g x next)) e d

-- the homes of all items under a growth state
module _ (p : Parameters) (next : Growth) (ns pool : List ℕ) (valid : valid_parameters p ≡ true) (later : valid_growth p next ≡ true)
    (many : length ns ≡ p.pages * p.places) (e : pool ≡ homes_of p next ns) where
  pub some-pages : 0 < p.pages
  some-pages =
      let state = growth_within p next later in
      omega (arith, state.pages_fit, (spread p next (limits p valid) state).pages_low)

  pub homes-size : length pool ≡ p.pages * p.places
  unfolding homes_of
  homes-size = ap length e ∙ length-map ns (home_in p next) ∙ many

  pub true_homes : stretch p.places 0 p.pages pool ≡ map (item_home (hash_of p next)) (stretch p.places 0 p.pages ns)
  true_homes =
      let home : ℕ → ℕ = item_home (hash_of p next) in
      ap (stretch p.places 0 p.pages) (e ∙ homes-real p next ns)
      ∙ ap (take (p.pages * p.places)) (map-drop home (0 * p.places) ns)
      ∙ map-take home (p.pages * p.places) (drop (0 * p.places) ns)

  home-inside : (x : ℕ) → item_home (hash_of p next) x < 0 + p.pages
  unfolding item_home
  home-inside x = go (eqb x 0)
    where
      go : (t : Bool) → cond t 0 ((hash_of p next).home x) < 0 + p.pages
      go true = omega (arith, some-pages)
      go false = omega (arith, homed-real p next valid later x)

  pub homes-within : all_below (0 + p.pages) (stretch p.places 0 p.pages pool) ≡ true
  unfolding item_home
  homes-within =
      let items : List ℕ = stretch p.places 0 p.pages ns in
      rw true_homes
      (all-below (0 + p.pages) (map (item_home (hash_of p next)) items)
      (λ i h. rw (get_or-map (item_home (hash_of p next)) items i 0) (home-inside (get_or items i 0))))

-- the file

module _ (p : Parameters) (g : Growth) (f : File) (valid : valid_parameters p ≡ true) (sized : Sized p.places p.pages f) where
  pub growth_refused : (next : Growth) (page bad : ℕ) → bad ≡ first_unsound_lem p g f 0 (p.pages - 0) → bad < p.pages
      → (Unsound bad ≡ growth_answer p g f next page) × (f ≡ growth_file p g f next)
  unfolding growth_answer growth_file
  growth_refused next page bad e h =
      let is : bad ≡ first_unsound_lem p g f 0 p.pages = rw (sub-zero p.pages) at e in
      let t : ltb (first_unsound_lem p g f 0 p.pages) p.pages ≡ true = lt-ltb (first_unsound_lem p g f 0 p.pages) p.pages (omega arith) in
      rw (t, is) (refl, refl)

  -- the survey has found all pages sound
  module _ (bad : ℕ) (survey : bad ≡ first_unsound_lem p g f 0 (p.pages - 0)) (past : p.pages ≤ bad) where
    -- .. and left their homes in the pool
    pub surveyed-all : (pool pool' : List ℕ) → length pool ≡ p.pages * p.places
        → (bad ≡ p.pages → pool' ≡ paste pool (0 * p.places) (homes_of p g (drop (0 * p.places) f.numbers)) ((p.pages - 0) * p.places))
        → pool' ≡ homes_of p g f.numbers
    unfolding homes_of first_unsound_lem
    surveyed-all pool pool' size homes =
        homes (omega (arith, (such (unsound p g f) 0 (p.pages - 0)).high))
        ∙ rw (sub-zero p.pages, zero-mul p.places)
        (pasted_whole pool (homes_of p g f.numbers) (p.pages * p.places) size (length-map f.numbers (home_in p g) ∙ sized.of_numbers))

    pub surveyed-sound : first_unsound_lem p g f 0 p.pages ≡ p.pages
    unfolding first_unsound_lem
    surveyed-sound =
        let is : bad ≡ first_unsound_lem p g f 0 p.pages = rw (sub-zero p.pages) at survey in
        omega (arith, (such (unsound p g f) 0 p.pages).high)

  -- all pages are sound
  module _ (every : first_unsound_lem p g f 0 p.pages ≡ p.pages) where
    sound-at : (q : ℕ) → 0 ≤ q → q < 0 + p.pages → sound_at p g f q ≡ true
    sound-at = all_sound p g f 0 p.pages (omega (arith, every))

    pub sound-numbers : (lo n : ℕ) → lo + n ≤ p.pages → all_below (2 ^ 31) (stretch p.places lo n f.numbers) ≡ true
    sound-numbers lo n h = numbers_below p f valid sized lo n h g (λ q a b. sound-at q (omega arith) (omega arith))

    -- stars stand at their homes or above
    home-low : (n i : ℕ) → n ≤ p.pages → i < n * p.places → home_in p g (get_or f.numbers i 0) < n
    home-low n i inside h =
        let some : 0 < p.places = (limits p valid).places_least in
        let low : i / p.places < n = (div-lt_iff_lt-mul some).1 h in
        let at : i ≡ i / p.places * p.places + i % p.places = omega (arith, div-add-mod' i p.places) in
        let there = item_on p g f (i / p.places) sized (omega arith) (sound-at (i / p.places) (omega arith) (omega arith)) (i % p.places) (mod-lt i some) in
        omega (arith, ap (λ (j : ℕ). home_in p g (get_or f.numbers j 0)) at, there.homed)

    pub homes-stay : (back : Bool) → valid_growth p g ≡ true → Movable back p g → HomesStay back p g f.numbers
    unfolding highest
    homes-stay false grows m = record { inside = omega arith; same = λ i h. omega arith }
    homes-stay true grows m =
        let low : highest p g ≤ p.pages = omega (arith, (growth_within p g grows).pages_fit) in
        record {
          inside = omega (arith, sized.of_numbers, mul-le-mul_right p.places low);
          same = λ i h. item-shrunk p g valid grows m (get_or f.numbers i 0) (home-low (highest p g) i low h);
        }

    module _ (next : Growth) (later : valid_growth p next ≡ true) (pool : List ℕ) (e : pool ≡ homes_of p next f.numbers) where
      some : 0 < p.pages
      some = some-pages p next f.numbers pool valid later sized.of_numbers e

      size : length pool ≡ p.pages * p.places
      size = homes-size p next f.numbers pool valid later sized.of_numbers e

      within : all_below (0 + p.pages) (stretch p.places 0 p.pages pool) ≡ true
      within = homes-within p next f.numbers pool valid later sized.of_numbers e

      below : all_below (2 ^ 31) (stretch p.places 0 p.pages f.numbers) ≡ true
      below = sound-numbers 0 p.pages (omega arith)

      none_out : without 0 (gathered p.places f 0 p.pages) ≡ gathered p.places f 0 p.pages
      none_out = all-numbered p g f 0 p.pages sound-at

      ready : Gatherable (hash_of p next) p.places 0 p.pages f pool
      ready = ready-stretch p f valid sized 0 p.pages (omega arith) some pool size below within (hash_of p next)
          (true_homes p next f.numbers pool valid later sized.of_numbers e)

      all-are-sound : ltb (first_unsound_lem p g f 0 p.pages) p.pages ≡ false
      all-are-sound = le-ltb (first_unsound_lem p g f 0 p.pages) p.pages (omega (arith, every))

      pub growth_plannable : (waiting poolowners : List ℕ) → length waiting ≡ p.pages * p.places → length poolowners ≡ p.pages * p.places
          → StretchReady p 0 p.pages f pool waiting poolowners
      growth_plannable waiting poolowners ew eo =
          plannable-stretch p f valid sized 0 p.pages (omega arith) some pool size below within waiting poolowners ew eo

      pub growth_done : (page : ℕ) (r : Bool) → r ≡ fitting p 0 p.pages 0 f pool → (f' : File) → f' ≡ restretched p 0 p.pages 0 f pool
          → (cond r (On page) Overflows ≡ growth_answer p g f next page) × (f' ≡ growth_file p g f next)
      unfolding growth_answer growth_file
      growth_done page r er f' ef =
          let H : Hash = hash_of p next in
          let is : r ≡ is_empty (left H 0 p.pages (gathered p.places f 0 p.pages)) =
          rw none_out at (er ∙ fitting-is H p (probes-real p next) 0 p.pages f pool ready 0) in
          rw (all-are-sound, is)
          (refl, ef ∙ rw none_out at (restretched-is H p (probes-real p next) 0 p.pages f pool ready 0))
