-- A removal: its reach, and that the rule over its sound pages is what the code leaves.
use mathlib.Core.Path.{◌≡◌, refl, sym, ap, subst, ◌∙◌}
use mathlib.Core.Bool.{true, false}
use mathlib.Core.List.{List, []}
use Prim.Native.Nat.{ℕ, ◌+◌, ◌-◌, ◌*◌, ◌≤◌, ◌<◌}
use native.Mathlib.Nat.{add-mul, mul-le-mul_right}
use native.Mathlib.Omega.{arith}
use lib.Dec.{ltb}
use lib.ListN.{length, take, drop}
use lib.Seq.{paste}
use borrow.Author.Tests.{lt-ltb, le-ltb}
use Rattle.buffers.proofs.Written.{written_behind, alike-later}
use Rattle.hashing.specs.declared.Parameters.{Parameters}
use Rattle.hashing.specs.declared.Growth.{Growth}
use Rattle.hashing.specs.declared.Geometry.{Geometry}
use Rattle.generator.specs.Generator.{top_of_lem}
use Rattle.hashing.specs.Limits.{valid_parameters, valid_growth}
use Rattle.pages.specs.Page.{part}
use Rattle.pages.specs.Position.{valid_word}
use Rattle.placement.specs.Rule.{Star, pages, without}
use Rattle.placement.specs.File.{File, pages_at, gathered, column, replaced}
use Rattle.placement.specs.Shape.{Sized}
use Rattle.placement.specs.Hash.{hash_of}
use Rattle.placement.specs.Shape.{homes_of}
use Rattle.placement.proofs.Probing.{homed-real}
use Rattle.reach.specs.Known.{Known}
use Rattle.reach.specs.Reach.{first_such, stored_top, removal_end, first_unsound_lem}
use Rattle.page_plan.specs.Gather.{stretch_words}
use Rattle.reach.proofs.Search.{such}
use Rattle.reach.proofs.Surveyed.{unsound, surveyed-pages}
use Rattle.page_plan.specs.Plans.{plans}
use Rattle.page_plan.proofs.Placed.{Gatherable, length-sources}
use Rattle.clean_test.specs.Raising.{raisable_from}
use Rattle.clean_test.proofs.Raising.{none-ruled}
use Rattle.page_plan.specs.declared.outcome.Outcome.TheVariants.{Unsound}
use Rattle.decision.specs.declared.chosen.Decision.TheVariants.{Planned}
use Rattle.page_edit.proofs.OnePage.{home-start}
use Rattle.removal_reach.specs.declared.star.HeldStar.{HeldStar}
use Rattle.removal_reach.specs.Stretch.{StretchReady}
use Rattle.removal_reach.specs.Changed.{Changed}
use Rattle.removal_reach.specs.Removal.{removal_start, removal_count, removal_unsound, removal_answer, removal_file, Removes, DecidesRemoval}
use Rattle.removal_reach.proofs.Items.{all_sound, real_sound, plannable-surveyed, ready-surveyed}
use Rattle.removal_reach.proofs.Shortened.{shortened}

-- the reach as the code has it
pub record Reached (p : Parameters) (g : Growth) (f : File) (k from last : ℕ) : Type 0 where
  pub start : from ≡ removal_start p g k
  pub end : last ≡ removal_end (hash_of p g) p.pages f (removal_start p g k)
  pub order : from ≤ last
  pub inside : last < p.pages

module _ (p : Parameters) (g : Growth) (f : File) (k : ℕ) where
  -- the last page as the code finds it
  pub end_is : Sized p.places p.pages f → (from last top : ℕ) → top ≡ top_of_lem p.bits → last ≡ first_such (stored_top f.separators top) from (length f.separators - 1 - from)
      → last ≡ removal_end (hash_of p g) p.pages f from
  unfolding removal_end hash_of
  end_is sized from last top et el = el ∙ rw (et, sized.of_separators)

  pub reached : valid_parameters p ≡ true → valid_growth p g ≡ true → (from last : ℕ) → from ≡ removal_start p g k → last ≡ removal_end (hash_of p g) p.pages f from
      → Reached p g f k from last
  unfolding removal_end
  reached valid grows from last es el =
      let low : from < p.pages = rw es (homed-real p g valid grows k) in
      let found = such (stored_top f.separators (hash_of p g).top) from (p.pages - 1 - from) in
      record {
        start = es;
        end = el ∙ rw es;
        order = omega (arith, el, found.low);
        inside = omega (arith, el, found.high);
      }

  module _ (from last : ℕ) (R : Reached p g f k from last) where
    count : last + 1 - from ≡ removal_count p g f k
    count = rw (← R.end, ← R.start) (omega (arith, R.order))

    stop : last + 1 ≡ removal_start p g k + removal_count p g f k
    stop = rw (← R.end, ← R.start) (omega (arith, R.order))

    same-unsound : first_unsound_lem p g f from (last + 1 - from) ≡ removal_unsound p g f k
    same-unsound = rw (count, R.start)

    pub removal_refused : (page bad : ℕ) → bad ≡ first_unsound_lem p g f from (last + 1 - from) → bad < last + 1
        → (Unsound bad ≡ removal_answer p g f k page) × (f ≡ removal_file p g f k)
    unfolding removal_answer removal_file
    removal_refused page bad e h =
        let is : bad ≡ removal_unsound p g f k = e ∙ same-unsound in
        let t : ltb (removal_unsound p g f k) (removal_start p g k + removal_count p g f k) ≡ true =
        lt-ltb (removal_unsound p g f k) (removal_start p g k + removal_count p g f k) (omega (arith, stop)) in
        rw (t, is) (refl, refl)

    -- the survey has found all pages of the reach sound, and left their homes in the pool
    module _ (valid : valid_parameters p ≡ true) (sized : Sized p.places p.pages f) (bad : ℕ) (survey : bad ≡ first_unsound_lem p g f from (last + 1 - from)) (past : last + 1 ≤ bad)
        (pool pool' : List ℕ) (size : length pool ≡ p.pages * p.places) (size' : length pool' ≡ p.pages * p.places)
        (homes : bad ≡ last + 1
        → pool' ≡ paste pool (from * p.places) (homes_of p g (drop (from * p.places) f.numbers)) ((last + 1 - from) * p.places)) where
      n : ℕ
      n = last + 1 - from

      ends : from + n ≡ last + 1
      unfolding n
      ends = omega (arith, R.order)

      none-unsound : ltb (removal_unsound p g f k) (removal_start p g k + removal_count p g f k) ≡ false
      none-unsound = le-ltb (removal_unsound p g f k) (removal_start p g k + removal_count p g f k) (omega (arith, stop, same-unsound))

      sound-stretch : from + n ≤ first_unsound_lem p g f from n
      unfolding n
      sound-stretch = omega (arith, ends)

      kept : pool' ≡ paste pool (from * p.places) (homes_of p g (drop (from * p.places) f.numbers)) (n * p.places)
      unfolding n first_unsound_lem
      kept = homes (omega (arith, (such (unsound p g f) from (last + 1 - from)).high, R.order))

      some : 0 < n
      unfolding n
      some = omega (arith, R.order)

      inside : from + n ≤ p.pages
      inside = omega (arith, ends, R.inside)

      pub removal_plannable : (waiting poolowners : List ℕ) → length waiting ≡ p.pages * p.places → length poolowners ≡ p.pages * p.places
          → StretchReady p from (last + 1 - from) f pool' waiting poolowners
      unfolding n
      removal_plannable waiting poolowners ew eo =
          plannable-surveyed p g f valid sized from n some inside sound-stretch pool pool' size kept waiting poolowners size' ew eo

      gathers : Gatherable (hash_of p g) p.places from n f pool'
      gathers = ready-surveyed p g f valid sized from n some inside sound-stretch pool pool' size kept size'

      removal-is : replaced p.places f from (pages (hash_of p g) from n (without k (gathered p.places f from n))) ≡ removal_file p g f k
      unfolding removal_file n
      removal-is = rw none-unsound (rw (count, R.start))

      -- behind a planned front the pool still has the homes
      pub rest-kept : (pool'' planned planned' : List ℕ) (r : ℕ)
          → Changed p from (last + 1 - from) (stretch_words p.places from (last + 1 - from) k f.numbers pool') f.numbers pool' pool'' planned planned' r
          → (q : ℕ) → from + r ≤ q → q < last + 1 → part p.places q pool'' ≡ homes_of p g (part p.places q f.numbers)
      unfolding n part
      rest-kept pool'' planned planned' r C q a h =
          let l : List ℕ = stretch_words p.places from n k f.numbers pool' in
          let items : List ℕ = column p.places (λ (s : Star). s.payload.word) (plans p from 0 r [] l) in
          let at : from * p.places + length items ≡ (from + r) * p.places = ap (λ (i : ℕ). from * p.places + i) (length-sources p from r [] l) ∙ sym (add-mul from r p.places) in
          let long : from * p.places ≤ p.pages * p.places = mul-le-mul_right p.places (omega (arith, R.order, R.inside)) in
          ap (take p.places)
          (alike-later ((from + r) * p.places) (q * p.places) pool'' pool' (mul-le-mul_right p.places a)
          (ap (drop ((from + r) * p.places)) C.sources ∙ written_behind (from * p.places) ((from + r) * p.places) items pool' (omega (arith, long, size')) at))
          ∙ (subst (λ (x : List ℕ). Known p g f x q) (sym kept)
          (surveyed-pages p g f pool from (last + 1) sized size (omega (arith, R.inside)) (λ i a b. all_sound p g f from n sound-stretch i a (omega (arith, ends))) q (omega arith) h)
          ).kept (omega (arith, R.inside))

      -- .. and its pages are the rule's if no separator of them could be one greater
      pub rest-ruled : (r raisable : ℕ) → r ≤ last + 1 - from
          → raisable ≡ first_such (raisable_from (hash_of p g) (from + r) (last + 1 - (from + r)) f.separators f.numbers) (from + r) (last + 1 - (from + r)) → raisable ≡ last + 1
          → pages_at p.places f (from + r) (last + 1 - from - r) ≡ pages (hash_of p g) (from + r) (last + 1 - from - r) (gathered p.places f (from + r) (last + 1 - from - r))
      unfolding hash_of n
      rest-ruled r raisable high e past =
          let rest : last + 1 - (from + r) ≡ last + 1 - from - r = omega arith in
          let found = such (raisable_from (hash_of p g) (from + r) (last + 1 - (from + r)) f.separators f.numbers) (from + r) (last + 1 - (from + r)) in
          none-ruled valid_word (hash_of p g) p.pages f sized (from + r) (last + 1 - from - r) (omega (arith, R.order, R.inside))
          (real_sound p g f (from + r) (last + 1 - from - r) (λ q a b. all_sound p g f from n sound-stretch q (omega arith) (omega (arith, ends, R.order))))
          (λ q a b. rw rest at (found.before q a (omega (arith, e, past, R.order))))

      -- the front planned without the star; the pages behind it, if any, are the rule's
      pub removal_decided : (page : ℕ) (pool'' planned planned' : List ℕ) (r : ℕ) → p.pages ≤ length planned → p.pages ≤ length planned'
          → Changed p from (last + 1 - from) (stretch_words p.places from (last + 1 - from) k f.numbers pool') f.numbers pool' pool'' planned planned' r
          → (r < last + 1 - from
          → pages_at p.places f (from + r) (last + 1 - from - r) ≡ pages (hash_of p g) (from + r) (last + 1 - from - r) (gathered p.places f (from + r) (last + 1 - from - r)))
          → DecidesRemoval p g f k page pool'' planned' (Planned from r page)
      unfolding removal_answer n
      removal_decided page pool'' planned planned' r long long' C ruled =
          record {
            answers = rw none-unsound;
            files = shortened p g f k valid sized from n inside (all_sound p g f from n sound-stretch) pool' gathers pool'' planned planned' r (omega (arith, inside, long)) C ruled ∙ removal-is;
            feasible = (omega (arith, C.high, inside), omega (arith, C.high, inside, long'));
          }

-- the reach of a star that is to be removed
module _ {g : Geometry} {t : List ℕ} {f : File} {s : HeldStar} (removes : Removes g t f s) where
  pub star-home : s.home ≡ removal_start g.parameters g.growth s.number
  star-home = removes.homed ∙ home-start g.parameters g.growth s.number

  pub star-inside : s.home < g.parameters.pages
  star-inside = rw star-home (homed-real g.parameters g.growth removes.ready.homing.valid removes.ready.homing.growth s.number)

  pub star-reached : (last : ℕ) → last ≡ removal_end (hash_of g.parameters g.growth) g.parameters.pages f s.home → Reached g.parameters g.growth f s.number s.home last
  star-reached last e =
      reached g.parameters g.growth f s.number removes.ready.homing.valid removes.ready.homing.growth s.home last star-home e
