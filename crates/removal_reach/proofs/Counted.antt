-- The front of a stretch settled page by page: the words that stayed, and the stars that stood there before, counted.
use mathlib.Core.Path.{◌≡◌, refl, sym, ap, ◌∙◌}
use mathlib.Core.Bool.{Bool, true, false, cond}
use mathlib.Core.List.{List, [], ◌∷◌, ◌++◌}
use Prim.Native.Nat.{ℕ, suc, ◌+◌, ◌*◌, ◌≤◌, ◌<◌}
use native.Mathlib.Nat.{zero-mul, le_refl, mul-le-mul}
use native.Mathlib.Omega.{arith}
use lib.ListN.{length}
use lib.Seq.{slice, length-slice}
use Rattle.pages.specs.Shape.{stretch}
use Rattle.hashing.specs.declared.Parameters.{Parameters}
use Rattle.placement.specs.Rule.{Star, Contents, separators}
use Rattle.placement.specs.File.{column, written}
use Rattle.page_plan.specs.Gather.{grouped, skipped, stars_in}
use Rattle.page_plan.specs.Plans.{remains, Settling, Started, Planned, end_of}
use Rattle.page_plan.proofs.Gathered.{stretch-slice, stars_in-most}
use Rattle.page_plan.proofs.Blocks.{groups-alone, group-grouped, grouped-again}
use Rattle.page_plan.proofs.Placed.{stretch-add}
use Rattle.page_plan.proofs.Sourcing.{length-stretch}
use Rattle.page_plan.proofs.Stretch.{ends-within}
use Rattle.removal_reach.specs.Changed.{Changed}

stars-append : (k : ℕ) (a b : List ℕ) → stars_in k (a ++ b) ≡ stars_in k a + stars_in k b
unfolding stars_in
stars-append k [] b = omega arith
stars-append k (n ∷ a) b = go (skipped k n) (stars-append k a b)
  where
    go : (t : Bool) → stars_in k (a ++ b) ≡ stars_in k a + stars_in k b
        → cond t (stars_in k (a ++ b)) (suc (stars_in k (a ++ b))) ≡ cond t (stars_in k a) (suc (stars_in k a)) + stars_in k b
    go true e = e
    go false e = omega arith

pub stars-none : (places lo : ℕ) (ns : List ℕ) → 0 ≡ stars_in 0 (stretch places lo 0 ns)
unfolding stars_in
stars-none places lo ns = rw (zero-mul places)

pub stars-more : (places lo v : ℕ) (ns : List ℕ)
    → stars_in 0 (stretch places lo v ns) + stars_in 0 (slice ((lo + v) * places) ((lo + v + 1) * places) ns) ≡ stars_in 0 (stretch places lo (v + 1) ns)
stars-more places lo v ns =
    rw (stretch-slice places (lo + v) 1 ns, stretch-add places lo v 1 ns) (sym (stars-append 0 (stretch places lo v ns) (stretch places (lo + v) 1 ns)))

pub stars-few : (places lo v : ℕ) (ns : List ℕ) → (lo + v) * places ≤ length ns → v ≤ 1024 → places ≤ 32 → stars_in 0 (stretch places lo v ns) ≤ 32768
stars-few places lo v ns h pages few =
    omega (arith, stars_in-most 0 (stretch places lo v ns), length-stretch places lo v ns h, mul-le-mul pages few)

module _ (q : Parameters) (lo count : ℕ) (l W pool planned ends : List ℕ) (S : Started lo count 0 l W ends) (pool' W' planned' : List ℕ) (from v : ℕ)
    (I : Settling q lo count 0 l W pool planned pool' W' planned' from v) where
  within : end_of 0 lo l v ≤ length W'
  within = omega (arith, ends-within lo count 0 l W ends S v I.upto, S.room, I.long_waiting)

  pub from-most : from ≤ length W
  from-most = omega (arith, I.start, within, I.long_waiting)

  -- `from` is the number of words that stayed
  stayed : length (remains q lo 0 v [] l) + from ≡ length (grouped lo 0 v l)
  stayed = omega (arith, I.start, ap length I.waiting, length-slice from (end_of 0 lo l v) W' within)

  pub changed : (numbers : List ℕ) (stored : ℕ) → stored ≡ stars_in 0 (stretch q.places lo v numbers) → (v < count → from + 1 ≡ stored)
      → Changed q lo count l numbers pool pool' planned planned' v
  changed numbers stored e ends =
      record { high = I.upto; sources = I.sources; separators_are = I.planned_are; fewer = λ h. omega (arith, stayed, e, ends h) }

-- planned over words in groups, the front is planned over the words
pub changed-again : (q : Parameters) (lo n : ℕ) (l numbers pool pool' planned planned' : List ℕ) (r : ℕ) → Changed q lo n (grouped lo 0 n l) numbers pool pool' planned planned' r
    → Changed q lo n l numbers pool pool' planned planned' r
changed-again q lo n l numbers pool pool' planned planned' r C =
    let both = groups-alone q lo 0 lo 0 r [] (grouped lo 0 n l) l refl (λ i h. group-grouped lo (0 + i) 0 n l (omega arith) (omega (arith, C.high))) in
    record {
      high = C.high;
      sources = C.sources ∙ ap (λ (cs : List Contents). written (lo * q.places) (column q.places (λ (s : Star). s.payload.word) cs) pool) both.0;
      separators_are = C.separators_are ∙ ap (λ (cs : List Contents). written lo (separators cs) planned) both.0;
      fewer = λ h. omega (arith, C.fewer h, ap length both.1, ap length (grouped-again lo r n l C.high));
    }

-- a whole plan
pub whole-changed : (q : Parameters) (lo n : ℕ) (l numbers pool pool' planned planned' W' : List ℕ) (r : ℕ) → Planned q lo n [] l pool pool' planned planned' W' r
    → Changed q lo n l numbers pool pool' planned planned' n
whole-changed q lo n l numbers pool pool' planned planned' W' r P =
    record { high = le_refl n; sources = P.sources; separators_are = P.separators_are; fewer = λ h. absurd (omega arith) }
