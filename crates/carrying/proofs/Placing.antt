-- The stars of another file, gathered by their keys and planned over all pages.
use mathlib.Core.Path.{◌≡◌, refl, ap, sym, ◌∙◌}
use mathlib.Core.Bool.{Bool, true, false, cond}
use mathlib.Core.List.{List, [], ◌∷◌, map}
use Prim.Native.Nat.{ℕ, ◌+◌, ◌*◌, ◌^◌, ◌≤◌, ◌<◌}
use native.Mathlib.Nat.{zero-mul, zero-add}
use native.Mathlib.Omega.{arith}
use lib.Dec.{eqb, ltb}
use lib.ListN.{length, take, length-map}
use lib.Seq.{slice, length-take-le}
use borrow.Author.Tests.{lt-ltb}
use Rattle.buffers.proofs.Written.{written-whole, taken-written}
use Rattle.hashing.specs.declared.Parameters.{Parameters}
use Rattle.hashing.specs.declared.Geometry.{Geometry}
use Rattle.hashing.specs.Limits.{valid_parameters, valid_growth}
use Rattle.hashing.proofs.Bounds.{limits}
use Rattle.placement.specs.Rule.{Star, Hash, pages, left, separators}
use Rattle.placement.specs.File.{column}
use Rattle.placement.specs.Hash.{hash_of}
use Rattle.placement.specs.Shape.{home_under, home_in, homes_of}
use Rattle.placement.proofs.Composition.{crowded}
use Rattle.placement.proofs.Probing.{homed-real}
use Rattle.placement.proofs.Standing.{length-separators}
use Rattle.page_separator.specs.Lists.{all, all_below}
use Rattle.page_separator.proofs.Lists.{all_cons}
use Rattle.page_plan.specs.Gather.{stars_in, grouped, groups_below, Scattered}
use Rattle.page_plan.specs.Keys.{Keyed}
use Rattle.page_plan.proofs.Gathered.{stars_in-most}
use Rattle.page_plan.proofs.Items.{words_count}
use Rattle.page_plan.specs.Plans.{homed, waits, plans, remains, Started, Settleable, Planned, AllPlaced}
use Rattle.page_plan.specs.Sources.{star_word}
use Rattle.page_plan.proofs.Pouring.{length-waits}
use Rattle.page_plan.proofs.Sourcing.{item_home, words-homed, words-grouped}
use Rattle.page_plan.proofs.Blocks.{plans-grouped}
use Rattle.page_plan.proofs.Stretch.{started, stands, started-again, length-plans, planned-again}
use Rattle.page_plan.proofs.Placed.{probes-real, homes-real, planned-pages, length-sources}
use Rattle.carrying.specs.Keys.{digit_words, word_key}
use Rattle.carrying.specs.Carried.{carried_words, AllPlanned}
use Rattle.carrying.proofs.Sorted.{sorted_words, sorted-keyed, sorted-homed, sorted-below, sorted-waits}

-- a plan over all pages, of words in groups, fills pool and separators
pub planned-whole : (q : Parameters) (l pool pool' planned planned' W' : List ℕ) (r : Bool)
    → AllPlaced q (grouped 0 0 q.pages l) pool pool' planned planned' W' r
    → length pool ≡ q.pages * q.places → q.pages ≤ length planned → AllPlanned q l pool' planned' r
planned-whole q l pool pool' planned planned' W' r A lp ln =
    let sources : List ℕ = column q.places (λ (s : Star). s.payload.word) (plans q 0 0 q.pages [] l) in
    record {
      fits = A.fits ∙ ap (λ (x : List ℕ). eqb (length x) 0) (plans-grouped q 0 q.pages [] l).1;
      sources =
          λ e. (plan e).sources ∙ rw (zero-mul q.places) (written-whole sources pool (length-sources q 0 q.pages [] l ∙ sym lp));
      separators_are =
          λ e. ap (take q.pages) (plan e).separators_are
          ∙ taken-written 0 q.pages (separators (plans q 0 0 q.pages [] l)) planned
          (length-separators (plans q 0 0 q.pages [] l) ∙ length-plans q 0 0 q.pages [] l) (omega arith);
    }
  where
    plan : r ≡ true → Planned q 0 q.pages [] l pool pool' planned planned' W' 0
    plan e = planned-again q 0 q.pages [] l pool pool' planned planned' W' 0 (A.plan e)

module _ (g : Geometry) (valid : valid_parameters g.parameters ≡ true) (growth : valid_growth g.parameters g.growth ≡ true) where
  home_below : (k : ℕ) → home_under g k < g.parameters.pages
  unfolding hash_of
  home_below k = homed-real g.parameters g.growth valid growth k

  item-below : (k : ℕ) → item_home (hash_of g.parameters g.growth) k < g.parameters.pages
  unfolding item_home hash_of
  item-below k = go (eqb k 0) (home_below k)
    where
      go : (t : Bool) → home_under g k < g.parameters.pages → cond t 0 (home_under g k) < g.parameters.pages
      go true h = omega arith
      go false h = h

  items-all : (l : List ℕ) → all_below (0 + g.parameters.pages) (map (item_home (hash_of g.parameters g.growth)) l) ≡ true
  items-all [] = unfold all in refl
  items-all (k ∷ l) =
      let home : ℕ = item_home (hash_of g.parameters g.growth) k in
      all_cons (λ x. ltb x (0 + g.parameters.pages)) home (map (item_home (hash_of g.parameters g.growth)) l)
      (lt-ltb home (0 + g.parameters.pages) (omega (arith, item-below k))) (items-all l)

  module _ (ns : List ℕ) (few : length ns ≤ 32768) where
    -- the words carry the homes of their numbers, and these are pages of the new file
    module _ (numbers : all_below (2 ^ 31) ns ≡ true) where
      pub words-home : homed (hash_of g.parameters g.growth) (carried_words g ns) ≡ true
      words-home =
          words-homed 0 0 ns (homes_of g.parameters g.growth ns) numbers (omega arith) (hash_of g.parameters g.growth) (homes-real g.parameters g.growth ns)

      pub words-below : groups_below 0 g.parameters.pages (carried_words g ns) ≡ true
      words-below =
          words-grouped 0 0 ns (homes_of g.parameters g.growth ns) numbers (omega arith) 0 g.parameters.pages (omega (arith, home_below 0))
          (rw (homes-real g.parameters g.growth ns) (items-all ns))

      -- more stars than places: some are left
      pub words-crowded : g.parameters.pages * g.parameters.places < stars_in 0 ns
          → length (remains g.parameters 0 0 g.parameters.pages [] (carried_words g ns)) ≡ 0 → ⊥
      unfolding hash_of homes_of
      words-crowded h e =
          let q : Parameters = g.parameters in
          let H : Hash = hash_of q g.growth in
          let l : List ℕ = carried_words g ns in
          let both = planned-pages H q (probes-real q g.growth) 0 q.pages [] l (unfold homed all in refl) (unfold all in refl) words-home words-below in
          let none : waits (remains q 0 0 q.pages [] l) ≡ [] = empty (waits (remains q 0 0 q.pages [] l)) (length-waits (remains q 0 0 q.pages [] l) ∙ e) in
          let count : length l ≡ stars_in 0 ns = words_count 0 0 ns (homes_of q g.growth ns) (omega (arith, length-map ns (home_in q g.growth))) in
          crowded H 0 q.pages (waits l) (omega (arith, length-waits l, count)) (sym both.1 ∙ none)
        where
          empty : (t : List Star) → length t ≡ 0 → t ≡ []
          empty [] z = refl
          empty (x ∷ t) z = absurd (omega arith)

    module _ (numbers : all_below (2 ^ 31) ns ≡ true) (shift : ℕ) (keys : List ℕ) (stars : ℕ) (count : stars ≡ stars_in 0 ns)
        (listed : take stars keys ≡ map (word_key g) (digit_words shift ns)) (inside : stars ≤ length keys) where
      abbrev words : List ℕ
      words = sorted_words ns few numbers shift g valid growth

      pub stars-few : stars ≤ 32768
      stars-few = omega (arith, stars_in-most 0 ns)

      pub stars-keyed : Keyed g.parameters.pages stars keys
      stars-keyed =
          record {
            some = omega (arith, home_below 0);
            most = (limits g.parameters valid).pages_most;
            inside = inside;
            few = stars-few;
            within = rw listed (sorted-keyed ns few numbers shift g valid growth);
          }

      words_are : map (star_word ns) (take stars keys) ≡ words
      unfolding sorted_words
      words_are = ap (map (star_word ns)) listed

      words-length : length words ≡ stars
      words-length = ap length (sym words_are) ∙ length-map (take stars keys) (star_word ns) ∙ length-take-le stars keys inside

      -- what is planned of the sorted words is the plan of the words in the order of the items
      pub planned-sorted : (pool planned : List ℕ) (r : Bool) → AllPlanned g.parameters words pool planned r
          → AllPlanned g.parameters (carried_words g ns) pool planned r
      planned-sorted pool planned r A =
          let q : Parameters = g.parameters in
          let H : Hash = hash_of q g.growth in
          let one = planned-pages H q (probes-real q g.growth) 0 q.pages [] words (unfold homed all in refl) (unfold all in refl)
          (sorted-homed ns few numbers shift g valid growth) (sorted-below ns few numbers shift g valid growth) in
          let other = planned-pages H q (probes-real q g.growth) 0 q.pages [] (carried_words g ns) (unfold homed all in refl) (unfold all in refl)
          (words-home numbers) (words-below numbers) in
          let same : waits words ≡ waits (carried_words g ns) = sorted-waits ns few numbers shift g valid growth in
          let plan : plans q 0 0 q.pages [] words ≡ plans q 0 0 q.pages [] (carried_words g ns)
          = one.0 ∙ ap (pages H 0 q.pages) same ∙ sym other.0 in
          let left_over : length (remains q 0 0 q.pages [] words) ≡ length (remains q 0 0 q.pages [] (carried_words g ns))
          = sym (length-waits (remains q 0 0 q.pages [] words))
          ∙ ap length (one.1 ∙ ap (left H 0 q.pages) same ∙ sym other.1)
          ∙ length-waits (remains q 0 0 q.pages [] (carried_words g ns)) in
          record {
            fits = A.fits ∙ ap (λ (n : ℕ). eqb n 0) left_over;
            sources = λ e. A.sources e ∙ ap (column q.places (λ (s : Star). s.payload.word)) plan;
            separators_are = λ e. A.separators_are e ∙ ap separators plan;
          }

      module _ (U W ends : List ℕ) (S : Scattered 0 g.parameters.pages 0 (map (star_word ns) (take stars keys)) U W ends) (wide : stars ≤ length U)
          (kept : length W ≡ length U) where
        ready : Started 0 g.parameters.pages 0 (words) W ends
        ready = started 0 g.parameters.pages 0 (words) U W ends (rw words_are at S) (omega (arith, words-length)) kept

        pub stars-grouped : slice 0 stars W ≡ grouped 0 0 g.parameters.pages (words)
        stars-grouped =
            ap (λ (n : ℕ). slice 0 n W) (sym words-length ∙ sym (zero-add (length (words)))) ∙ stands 0 g.parameters.pages 0 (words) W ends ready

        pub stars-settleable : (pool planned : List ℕ) → length pool ≡ g.parameters.pages * g.parameters.places → length W ≤ 32768
            → 1024 ≤ length planned → 1024 ≤ length ends → Settleable g.parameters 0 g.parameters.pages 0 stars pool W planned ends
        stars-settleable pool planned lp lw ln le =
            let most : g.parameters.pages ≤ 1024 = (limits g.parameters valid).pages_most in
            record {
              valid = valid;
              pages = omega arith;
              of_planned = omega arith;
              of_pool = rw (zero-add g.parameters.pages) (omega arith);
              of_ends = omega arith;
              few = lw;
              order = omega arith;
              inside = omega arith;
              grouped_are = rw stars-grouped (started-again 0 g.parameters.pages 0 (words) W ends ready);
              near = unfold all in refl;
            }
