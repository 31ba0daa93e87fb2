-- One block: its end, its survey, and its plan over the surveyed homes.
use mathlib.Core.Path.{◌≡◌, refl, sym, ap, ◌∙◌, subst}
use mathlib.Core.Bool.{true, not}
use mathlib.Core.List.{List, ◌++◌, map}
use Prim.Native.Nat.{ℕ, zero, suc, ◌+◌, ◌-◌, ◌*◌, ◌^◌, ◌≤◌, ◌<◌}
use native.Mathlib.Nat.{le_refl, add-zero, add-suc, add-mul, mul-le-mul_right}
use native.Mathlib.Numerals.{add-one}
use native.Mathlib.Omega.{arith}
use lib.ListN.{take, length-append, length, drop, length-map, length-drop}
use lib.Seq.{drop-drop, take_at, take-append-le, length-take-le, drop-paste, paste, slice}
use Rattle.buffers.specs.Lists.{written}
use Rattle.pages.specs.Shape.{stretch}
use Rattle.hashing.specs.declared.Parameters.{Parameters}
use Rattle.hashing.specs.declared.Growth.{Growth}
use Rattle.generator.specs.Generator.{top_of_lem}
use Rattle.hashing.specs.Limits.{valid_parameters}
use Rattle.placement.specs.Rule.{Star}
use Rattle.placement.specs.File.{File, column}
use Rattle.placement.specs.Shape.{Sized}
use Rattle.placement.specs.Hash.{hash_of, sound_at}
use Rattle.placement.specs.Shape.{homes_of, home_in}
use Rattle.placement.proofs.Writing.{length-column}
use Rattle.page_separator.specs.Lists.{all_below}
use Rattle.page_plan.specs.Gather.{stars_in, stretch_words}
use Rattle.page_plan.proofs.Gathered.{stretch-slice}
use Rattle.page_plan.specs.Plans.{plans, Planned}
use Rattle.page_plan.proofs.Stretch.{plans-roomy, length-plans}
use Rattle.reach.specs.Reach.{first_such, stored_top, removal_end, first_unsound_lem}
use Rattle.reach.specs.Known.{Known}
use Rattle.reach.proofs.Search.{such}
use Rattle.reach.proofs.Pastes.{paste_more, map-drop}
use Rattle.reach.proofs.Surveyed.{Surveyed, homes_from, surveyed-none, surveyed-next, known-surveyed, known-none}
use Rattle.page_plan.proofs.Placed.{surveyed-homes, homes-real}
use Rattle.entry_reach.specs.declared.blocks.Extent.{Extent}
use Rattle.entry_reach.specs.Entry.{KnownTo, Extends, block_numbers, block_end, block_count, block_words, BlockSound, PlannedBlock, UnsoundBlock, CrowdedBlock}
use Rattle.entry_reach.proofs.Items.{stretch-homes, numbers_below, homes-below}
use Rattle.entry_reach.proofs.Reached.{block-such, block-most, block-sound, block-sum}

-- what is pasted first is written over
pub written-paste : (d : List ℕ) (at : ℕ) (t : List ℕ) (n : ℕ) (s : List ℕ) → length s ≡ n → at + n ≤ length d → n ≤ length t
    → written at s (paste d at t n) ≡ written at s d
unfolding written
written-paste d at t n s e h k =
    ap (λ (l : List ℕ). l ++ (s ++ drop (at + length s) (paste d at t n)))
    (take-append-le at (take at d ++ take n t) (drop (at + n) d) (omega (arith, length-append (take at d) (take n t), size))
    ∙ take_at (take at d) (take n t) at size)
    ∙ ap (λ (m : ℕ). take at d ++ (s ++ drop (at + m) (paste d at t n))) e
    ∙ ap (λ (l : List ℕ). take at d ++ (s ++ l)) (drop-paste d at t n (omega arith) k ∙ ap (λ (m : ℕ). drop (at + m) d) (sym e))
  where
    size : length (take at d) ≡ at
    size = length-take-le at d (omega arith)

-- the pages from lo up to the one before `tested` are known: a survey of those from there on is one of all
module _ (p : Parameters) (g : Growth) (f : File) (sized : Sized p.places p.pages f) (pool : List ℕ) (fits : length pool ≡ p.pages * p.places) (lo n : ℕ) (bound : lo + n ≤ p.pages) where
  known-begun : (d : ℕ) → d ≤ n → KnownTo p g f pool lo (lo + d) → Surveyed p g f pool lo n pool (lo + d)
  known-begun zero h k = rw (add-zero lo) (surveyed-none p g f pool lo n)
  known-begun (suc d) h k =
      let page : Known p g f pool (lo + d) = k (lo + d) (omega arith) (omega arith) in
      let inside : lo + d < p.pages = omega arith in
      rw (add-suc lo d, ← add-one (lo + d))
      (surveyed-next p g f pool lo n pool (lo + d) (known-begun d (omega arith) (λ q a b. k q a (omega arith))) sized fits (omega arith) bound pool
      (page.sound inside) (known-surveyed p g f pool (lo + d) inside page) refl)

module _ (p : Parameters) (g : Growth) (f : File) (sized : Sized p.places p.pages f) (pool : List ℕ) (fits : length pool ≡ p.pages * p.places) (lo tested stop : ℕ)
    (low : lo ≤ tested) (high : tested ≤ stop) (bound : stop ≤ p.pages) (known : KnownTo p g f pool lo tested) where
  begun : Surveyed p g f pool lo (stop - lo) pool tested
  begun =
      let same : lo + (tested - lo) ≡ tested = omega arith in
      rw same at (known-begun p g f sized pool fits lo (stop - lo) (omega arith) (tested - lo) (omega arith) (λ q a b. known q a (omega (arith, b))))

  unsound-joined : first_unsound_lem p g f tested (stop - tested) ≡ first_unsound_lem p g f lo (stop - lo)
  unfolding first_unsound_lem
  unsound-joined =
      let same : stop ≡ lo + (stop - lo) = omega arith in
      ap (λ (i : ℕ). first_unsound_lem p g f tested (i - tested)) same ∙ sym begun.sought.rest

  homes-after : drop ((tested - lo) * p.places) (homes_from p g f lo) ≡ homes_from p g f tested
  unfolding homes_of
  homes-after =
      let there : lo + (tested - lo) ≡ tested = omega arith in
      map-drop (home_in p g) ((tested - lo) * p.places) (drop (lo * p.places) f.numbers)
      ∙ ap (map (home_in p g))
      (drop-drop ((tested - lo) * p.places) (lo * p.places) f.numbers
      ∙ ap (λ (i : ℕ). drop i f.numbers) (sym (add-mul lo (tested - lo) p.places) ∙ ap (λ (i : ℕ). i * p.places) there))

  homes-joined : paste pool (tested * p.places) (homes_from p g f tested) ((stop - tested) * p.places) ≡ paste pool (lo * p.places) (homes_from p g f lo) ((stop - lo) * p.places)
  unfolding homes_of
  homes-joined =
      ap (λ (l : List ℕ). paste l (tested * p.places) (homes_from p g f tested) ((stop - tested) * p.places)) begun.kept
      ∙ ap (λ (i : ℕ). paste (paste pool (lo * p.places) (homes_from p g f lo) ((tested - lo) * p.places)) i (homes_from p g f tested) ((stop - tested) * p.places)) (sym ahead)
      ∙ paste_more pool (lo * p.places) (homes_from p g f lo) ((tested - lo) * p.places) (homes_from p g f tested) ((stop - tested) * p.places)
      (omega (arith, fits, mul-le-mul_right {m = lo} {n = p.pages} p.places (omega arith))) long-enough
      (ap (take ((stop - tested) * p.places)) (sym homes-after))
      ∙ ap (paste pool (lo * p.places) (homes_from p g f lo)) all
    where
      ahead : lo * p.places + (tested - lo) * p.places ≡ tested * p.places
      ahead =
          let there : lo + (tested - lo) ≡ tested = omega arith in
          sym (add-mul lo (tested - lo) p.places) ∙ ap (λ (i : ℕ). i * p.places) there

      all : (tested - lo) * p.places + (stop - tested) * p.places ≡ (stop - lo) * p.places
      all =
          let sum : (tested - lo) + (stop - tested) ≡ stop - lo = omega arith in
          sym (add-mul (tested - lo) (stop - tested) p.places) ∙ ap (λ (i : ℕ). i * p.places) sum

      long-enough : (tested - lo) * p.places ≤ length (homes_from p g f lo)
      long-enough =
          rw (length-map (drop (lo * p.places) f.numbers) (home_in p g), length-drop (lo * p.places) f.numbers, sized.of_numbers)
          (omega (arith, ahead, mul-le-mul_right {m = tested} {n = p.pages} p.places (omega arith)))

module _ (p : Parameters) (g : Growth) (f : File) (valid : valid_parameters p ≡ true) (sized : Sized p.places p.pages f) (lo : ℕ) (inside : lo < p.pages) where
  pub end-found : (top last : ℕ) → top ≡ top_of_lem p.bits → last ≡ first_such (stored_top f.separators top) lo (length f.separators - 1 - lo) → last ≡ block_end p g f lo
  unfolding removal_end hash_of
  end-found top last et e = e ∙ rw (sized.of_separators, et)

  module _ (last : ℕ) (e : last ≡ block_end p g f lo) where
    pub count-is : last + 1 - lo ≡ block_count p g f lo
    count-is = omega (arith, e, (block-such p g f lo inside).low)

    pub last-low : lo ≤ last
    last-low = omega (arith, e, (block-such p g f lo inside).low)

    pub last-high : last < p.pages
    last-high = omega (arith, e, block-most p g f lo inside)

    stop_is : last + 1 ≡ lo + block_count p g f lo
    stop_is = omega (arith, e, block-sum p g f lo inside)

    module _ (bad : ℕ) (u : bad ≡ first_unsound_lem p g f lo (last + 1 - lo)) where
      bad-is : bad ≡ first_unsound_lem p g f lo (block_count p g f lo)
      bad-is = u ∙ ap (first_unsound_lem p g f lo) count-is

      pub block-unsound : bad < last + 1 → UnsoundBlock p g f lo bad
      block-unsound h = record { is = bad-is; inside = omega (arith, stop_is) }

      pub bad_none : last + 1 ≤ bad → bad ≡ last + 1
      unfolding first_unsound_lem
      bad_none h = omega (arith, stop_is, bad-is, (such (λ (q : ℕ). not (sound_at p g f q)) lo (block_count p g f lo)).high)

      pub block-clear : last + 1 ≤ bad → BlockSound p g f lo
      block-clear h = sym bad-is ∙ bad_none h ∙ stop_is

    module _ (clear : BlockSound p g f lo) where
      sound : (q : ℕ) → lo ≤ q → q < lo + (last + 1 - lo) → sound_at p g f q ≡ true
      sound q a b = block-sound p g f lo inside q a (omega (arith, clear, stop_is))

      few : lo + (last + 1 - lo) ≤ p.pages
      few = omega (arith, last-high, last-low)

      pub found-numbers : all_below (2 ^ 31) (stretch p.places lo (last + 1 - lo) f.numbers) ≡ true
      found-numbers = numbers_below p g f valid sized lo (last + 1 - lo) few sound

      module _ (pool homes : List ℕ) (long : length pool ≡ p.pages * p.places)
          (kept : homes ≡ paste pool (lo * p.places) (homes_of p g (drop (lo * p.places) f.numbers)) ((last + 1 - lo) * p.places)) where
        room : lo * p.places + (last + 1 - lo) * p.places ≤ p.pages * p.places
        room = omega (arith, add-mul lo (last + 1 - lo) p.places, mul-le-mul_right {m = lo + (last + 1 - lo)} {n = p.pages} p.places few)

        homes-long : (last + 1 - lo) * p.places ≤ length (homes_of p g (drop (lo * p.places) f.numbers))
        unfolding homes_of
        homes-long = omega (arith, room, length-map (drop (lo * p.places) f.numbers) (home_in p g), length-drop (lo * p.places) f.numbers, sized.of_numbers)

        pub found-homes : stretch p.places lo (last + 1 - lo) homes ≡ stretch p.places lo (last + 1 - lo) (homes_of p g f.numbers)
        found-homes =
            ap (stretch p.places lo (last + 1 - lo)) kept
            ∙ surveyed-homes p g p.places lo (last + 1 - lo) pool f.numbers
            (omega (arith, room, long, add-mul lo (last + 1 - lo) p.places)) (omega (arith, room, sized.of_numbers, add-mul lo (last + 1 - lo) p.places))
            ∙ sym (stretch-homes p g f valid sized lo (last + 1 - lo) few ∙ homes-real p g (block_numbers p f lo (last + 1 - lo)))

        pub found_below : all_below (lo + (last + 1 - lo)) (stretch p.places lo (last + 1 - lo) homes) ≡ true
        found_below = rw (found-homes, stretch-homes p g f valid sized lo (last + 1 - lo) few) (homes-below p g f valid sized lo (last + 1 - lo) few sound)

        -- the plan over the surveyed homes
        module _ (w planned sources planned' W' : List ℕ) (left : ℕ)
            (plan : Planned p lo (last + 1 - lo) w (stretch_words p.places lo (last + 1 - lo) 0 f.numbers homes) homes sources planned planned' W' left) where
          renewed : Planned p lo (last + 1 - lo) w (block_words p g f lo (last + 1 - lo)) homes sources planned planned' W' left
          unfolding block_words
          renewed = rw found-homes at plan

          items : List ℕ
          items = column p.places (λ (s : Star). s.payload.word) (plans p lo 0 (last + 1 - lo) w (block_words p g f lo (last + 1 - lo)))

          items-long : length items ≡ (last + 1 - lo) * p.places
          unfolding items
          items-long =
              length-column p.places (λ (s : Star). s.payload.word) (plans p lo 0 (last + 1 - lo) w (block_words p g f lo (last + 1 - lo)))
              (plans-roomy p lo 0 (last + 1 - lo) w (block_words p g f lo (last + 1 - lo)))
              ∙ ap (λ (n : ℕ). n * p.places) (length-plans p lo 0 (last + 1 - lo) w (block_words p g f lo (last + 1 - lo)))

          pub block-planned : PlannedBlock p g f lo w pool sources planned planned' W' left
          unfolding items
          block-planned =
              record {
                sound = clear;
                plan =
                    subst (λ (n : ℕ). Planned p lo n w (block_words p g f lo n) pool sources planned planned' W' left) count-is
                    (record {
                      sources =
                          renewed.sources
                          ∙ ap (written (lo * p.places) items) kept
                          ∙ written-paste pool (lo * p.places) (homes_of p g (drop (lo * p.places) f.numbers)) ((last + 1 - lo) * p.places) items items-long (omega (arith, room, long)) homes-long;
                      separators_are = renewed.separators_are;
                      passed = renewed.passed;
                      counted = renewed.counted;
                    });
              }

      -- the stars of the block, as they are counted
      pub found-count : stars_in 0 (slice (lo * p.places) ((last + 1) * p.places) f.numbers) ≡ stars_in 0 (stretch p.places lo (last + 1 - lo) f.numbers)
      found-count =
          let sum : last + 1 ≡ lo + (last + 1 - lo) = omega (arith, last-low) in
          ap (λ (n : ℕ). stars_in 0 (slice (lo * p.places) (n * p.places) f.numbers)) sum
          ∙ ap (stars_in 0) (stretch-slice p.places lo (last + 1 - lo) f.numbers)

      pub block-crowded : (w : List ℕ) (carried : ℕ) → length w ≡ carried → p.pages * p.places < carried + stars_in 0 (stretch p.places lo (last + 1 - lo) f.numbers) → CrowdedBlock p g f lo w
      block-crowded w carried l h = record { sound = clear; many = rw (l, ← count-is) h }

-- a block whose first pages are known, surveyed from there on
module _ (p : Parameters) (g : Growth) (f : File) (valid : valid_parameters p ≡ true) (sized : Sized p.places p.pages f) (pool : List ℕ) (fits : length pool ≡ p.pages * p.places)
    (e : Extent) (x : Extends p g f pool e) where
  pub extent-low : e.first ≤ e.last
  extent-low = last-low p g f valid sized e.first x.inside e.last x.ends

  pub extent-high : e.last < p.pages
  extent-high = last-high p g f valid sized e.first x.inside e.last x.ends

  pub extent-unsound : first_unsound_lem p g f e.surveyed (e.last + 1 - e.surveyed) ≡ first_unsound_lem p g f e.first (e.last + 1 - e.first)
  extent-unsound = unsound-joined p g f sized pool fits e.first e.surveyed (e.last + 1) x.low x.high (omega (arith, extent-high)) x.tested

  pub extent-homes : paste pool (e.surveyed * p.places) (homes_from p g f e.surveyed) ((e.last + 1 - e.surveyed) * p.places)
      ≡ paste pool (e.first * p.places) (homes_from p g f e.first) ((e.last + 1 - e.first) * p.places)
  extent-homes = homes-joined p g f sized pool fits e.first e.surveyed (e.last + 1) x.low x.high (omega (arith, extent-high)) x.tested

-- the block from page lo, of which at most one page is known
pub extent-from : (p : Parameters) (g : Growth) (f : File) (pool : List ℕ) → Sized p.places p.pages f → (lo known : ℕ) → lo < p.pages → Known p g f pool known → (r : Extent)
    → r ≡ record { first = lo; last = first_such (stored_top f.separators (top_of_lem p.bits)) lo (length f.separators - 1 - lo); surveyed = lo; known = known } → Extends p g f pool r
unfolding removal_end hash_of
extent-from p g f pool sized lo known inside k r e =
    subst (Extends p g f pool) (sym e)
    (record {
      inside = inside;
      ends = rw sized.of_separators;
      low = omega arith;
      high = omega (arith, (such (stored_top f.separators (top_of_lem p.bits)) lo (length f.separators - 1 - lo)).low);
      tested = λ q a b. absurd (omega arith);
      besides = k;
    })

-- the block whose pages below `tested` are known
pub extent-tested : (p : Parameters) (g : Growth) (f : File) (pool : List ℕ) (lo last tested : ℕ) → lo < p.pages → last ≡ block_end p g f lo → lo ≤ tested → tested ≤ last + 1
    → KnownTo p g f pool lo tested → (r : Extent) → r ≡ record { first = lo; last = last; surveyed = tested; known = p.pages } → Extends p g f pool r
extent-tested p g f pool lo last tested inside ends low high known r e =
    subst (Extends p g f pool) (sym e)
    (record {
      inside = inside;
      ends = ends;
      low = low;
      high = high;
      tested = known;
      besides = known-none p g f pool p.pages (le_refl p.pages);
    })
