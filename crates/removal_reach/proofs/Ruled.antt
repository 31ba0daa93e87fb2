-- A stretch planned over its own stars and applied: what the code leaves, and that it is the rule over these stars, for any hash.
use mathlib.Core.Path.{◌≡◌, refl, sym, ap, ◌∙◌}
use mathlib.Core.Bool.{true, false, cond}
use mathlib.Core.List.{List, [], ◌∷◌, map}
use Prim.Native.Nat.{ℕ, suc, ◌+◌, ◌*◌, ◌≤◌}
use native.Mathlib.Nat.{add-mul, mul-le-mul}
use native.Mathlib.Omega.{arith}
use lib.Dec.{eqb}
use lib.ListN.{length, drop, take}
use borrow.Author.Tests.{eq-eqb, ne_eqb}
use Rattle.buffers.specs.Lists.{written}
use Rattle.pages.specs.Shape.{stretch}
use Rattle.hashing.specs.declared.Parameters.{Parameters}
use Rattle.placement.specs.Rule.{Star, Hash, pages, left, without}
use Rattle.placement.specs.File.{File, gathered, column, replaced}
use Rattle.placement.specs.Hash.{lent}
use Rattle.page_plan.specs.Gather.{stars_in, stretch_words}
use Rattle.reach.specs.Reach.{is_empty}
use Rattle.page_plan.specs.Sources.{named_item, renamed, sourced}
use Rattle.page_plan.specs.Plans.{plans, remains, Planned}
use Rattle.buffers.proofs.Written.{written_behind}
use Rattle.page_plan.proofs.RuleOverWords.{Probes}
use Rattle.page_plan.proofs.Applying.{applied}
use Rattle.page_plan.proofs.Sourcing.{words-sourced, named-stretch, length-stretch}
use Rattle.page_plan.proofs.Placed.{Gatherable, placed, left-count, length-sources, layout, applied-layout}
use Rattle.removal_reach.specs.Stretch.{StretchReady, new_pages, fitting, restretched}
use Rattle.page_plan.proofs.Gathered.{stars_in-most}

module _ (q : Parameters) (lo n : ℕ) (f : File) (pool waiting poolowners : List ℕ) (L : StretchReady q lo n f pool waiting poolowners) (k : ℕ) where
  -- the waiting list has q.places for the stretch's stars
  pub stars-fit : 0 + stars_in k (stretch q.places lo n f.numbers) ≤ length waiting
  stars-fit =
      omega (
        arith,
        stars_in-most k (stretch q.places lo n f.numbers),
        length-stretch q.places lo n f.numbers L.numbers_long,
        add-mul lo n q.places,
        L.waiting_long,
      )

  stretch-sourced : sourced f.numbers 0 (stretch_words q.places lo n k f.numbers pool) ≡ true
  stretch-sourced =
      words-sourced (lo * q.places) k (stretch q.places lo n f.numbers) (stretch q.places lo n pool) L.valid
      (omega (
        arith,
        length-stretch q.places lo n f.numbers L.numbers_long,
        add-mul lo n q.places,
        mul-le-mul L.pages_most L.places_most,
      ))
      f.numbers 0 (named-stretch q.places lo n 0 f.numbers L.numbers_long)

  -- the plan applied
  pub applied-stretch : (pool' planned planned' W' : List ℕ) (r : ℕ) → lo + n ≤ length planned
      → Planned q lo n [] (stretch_words q.places lo n k f.numbers pool) pool pool' planned planned' W' r
      → applied q.places lo n 0 0 0 pool' planned' f ≡ replaced q.places f lo (new_pages q lo n k f pool)
  unfolding new_pages
  applied-stretch pool' planned planned' W' r long P =
      let l : List ℕ = stretch_words q.places lo n k f.numbers pool in
      applied-layout q lo n 0 0 0 f [] l pool' planned' W' r
      (layout q lo n [] l pool pool' planned planned' W' r P L.pool_long long)
      (unfold sourced Rattle.page_separator.specs.Lists.all in refl) stretch-sourced

  -- what the answer of the plan decides
  module _ (pool' planned planned' W' : List ℕ) (r : ℕ) (P : Planned q lo n [] (stretch_words q.places lo n k f.numbers pool) pool pool' planned planned' W' r) where
    pub stretch-kept : (r ≡ 0 → ⊥) → (false ≡ fitting q lo n k f pool) × (f ≡ restretched q lo n k f pool)
    unfolding fitting restretched
    stretch-kept some =
        let e : eqb (length (remains q lo 0 n [] (stretch_words q.places lo n k f.numbers pool))) 0 ≡ false = ne_eqb _ 0 (λ z. some (P.counted ∙ z)) in
        rw e (refl, refl)

    -- the pool behind the stretch stays
    pub stretch-behind : drop ((lo + n) * q.places) pool' ≡ drop ((lo + n) * q.places) pool
    stretch-behind =
        let l : List ℕ = stretch_words q.places lo n k f.numbers pool in
        let items : List ℕ = column q.places (λ (s : Star). s.payload.word) (plans q lo 0 n [] l) in
        let sum : lo * q.places + n * q.places ≡ (lo + n) * q.places = omega (arith, add-mul lo n q.places) in
        ap (drop ((lo + n) * q.places)) P.sources
        ∙ written_behind (lo * q.places) ((lo + n) * q.places) items pool (omega (arith, sum, L.pool_long))
        (ap (λ (m : ℕ). lo * q.places + m) (length-sources q lo n [] l) ∙ sum)

    pub stretch-placed : r ≡ 0 → lo + n ≤ length planned
        → (true ≡ fitting q lo n k f pool) × (applied q.places lo n 0 0 0 pool' planned' f ≡ restretched q lo n k f pool)
    unfolding fitting restretched
    stretch-placed none long =
        let e : eqb (length (remains q lo 0 n [] (stretch_words q.places lo n k f.numbers pool))) 0 ≡ true = eq-eqb _ 0 (sym P.counted ∙ none) in
        rw e (refl, applied-stretch pool' planned planned' W' r long P)

-- the lists that the code leaves are the applied file's
pub applied-lists : (places lo n : ℕ) (pool planned separators numbers words owners separators' numbers' words' owners' : List ℕ)
    → separators' ≡ written lo (take n (drop lo planned)) separators
    → numbers' ≡ written (lo * places) (map (named_item numbers 0) (stretch places lo n pool)) numbers
    → words' ≡ written (lo * places) (map (named_item words 0) (stretch places lo n pool)) words
    → owners' ≡ written (lo * places) (map (named_item owners 0) (stretch places lo n pool)) owners
    → lent separators' numbers' words' owners' ≡ applied places lo n 0 0 0 pool planned (lent separators numbers words owners)
unfolding applied
applied-lists places lo n pool planned separators numbers words owners separators' numbers' words' owners' es en ew eo = rw (es, en, ew, eo)

pub none_left : (w : List Star) → eqb (length w) 0 ≡ is_empty w
none_left [] = refl
none_left (s ∷ w) = ne_eqb (suc (length w)) 0 (λ e. omega arith)

module _ (H : Hash) (q : Parameters) (real : Probes H q) (lo n : ℕ) (f : File) (hs : List ℕ) (R : Gatherable H q.places lo n f hs) (k : ℕ) where
  pub fitting-is : fitting q lo n k f hs ≡ is_empty (left H lo n (without k (gathered q.places f lo n)))
  unfolding fitting
  fitting-is =
      let past : List ℕ = remains q lo 0 n [] (stretch_words q.places lo n k f.numbers hs) in
      let w : List Star = left H lo n (without k (gathered q.places f lo n)) in
      ap (λ (m : ℕ). eqb m 0) (sym (left-count (renamed f.words f.owners 0 0) past w (placed H q real lo n f hs R k 0 0).1)) ∙ none_left w

  pub restretched-is : restretched q lo n k f hs
      ≡ cond (is_empty (left H lo n (without k (gathered q.places f lo n)))) (replaced q.places f lo (pages H lo n (without k (gathered q.places f lo n)))) f
  unfolding restretched new_pages
  restretched-is = rw (fitting-is, (placed H q real lo n f hs R k 0 0).0)
