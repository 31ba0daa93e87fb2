-- One step of a lane is a step of the rule, for any multiplier.
use mathlib.Core.Path.{◌≡◌, ◌∙◌, refl, sym, ap}
use mathlib.Core.Bool.{Bool, true, false, ◌&&◌, ◌||◌, cond}
use mathlib.Core.List.{List}
use Prim.Native.Nat.{ℕ, zero, suc, ◌+◌, ◌*◌, ◌/◌, ◌%◌, ◌^◌, ◌≤◌, ◌<◌}
use native.Mathlib.Nat.{mod-lt, mod-eq_of_lt, mul-add-mod_self_right}
use native.Mathlib.Decide.{dec_le, dec_lt}
use native.Mathlib.Omega.{arith}
use lib.Dec.{leb, ltb}
use lib.ListN.{length, get_or}
use lib.Seq.{paste}
use borrow.Author.Tests.{le-leb, lt-leb, lt-ltb, le-ltb}
use Rattle.hashing.specs.declared.Parameters.{Parameters}
use Rattle.hashing.specs.declared.Growth.{Growth}
use Rattle.hashing.specs.declared.Geometry.{Geometry}
use Rattle.generator.specs.Generator.{modulus, scrambled}
use Rattle.generator.specs.Shape.{power}
use Rattle.hashing.specs.Geometry.{multiplier_of, size_at, count_at_lem, rank}
use Rattle.hashing.specs.Home.{rank_at, chosen, expanded_at, step_from, after_steps, home}
use Rattle.generator.proofs.Numbers.{mul_mod_right, halves}
use Rattle.generator.proofs.Scrambling.{scrambled-by}
use Rattle.hashing.proofs.Bounds.{Limits}
use Rattle.hashing.proofs.Homes.{rank_below, rank-at-below, steps_one, steps_below}
use Rattle.homes.specs.declared.stages.Stage.{Stage}
use Rattle.homes.specs.declared.stages.Sweep.{Sweep}
use Rattle.homes.specs.Stages.{stage_at, sweep_of, limit_at, Rankable}
use Rattle.homes.specs.Lanes.{block_at, Blocks, PagedAt, RegroupedAt, Under, residue_of, keys_at, hit_of, moved_by_lem, stepped, pages_after_lem, groups_after_lem, Grouped}
use Rattle.homes.specs.Indexed.{lanes}
use Rattle.homes.proofs.Numbers.{quotient-test, quotient-over}
use Rattle.homes.proofs.Lists.{lane, lanes-length, lanes-same, blocks-next}
use Rattle.homes.proofs.Prepared.{sweep_step, stage_size, stage_count}

-- the test by a quotient is the rule's test
quotient-leb : (x n : ℕ) → leb x (modulus / (n + 1)) ≡ leb (x * (n + 1)) modulus
quotient-leb x n = go (dec_le x (modulus / (n + 1)))
  where
    go : Dec (x ≤ modulus / (n + 1)) → leb x (modulus / (n + 1)) ≡ leb (x * (n + 1)) modulus
    go (yes h) = rw (le-leb x (modulus / (n + 1)) h, le-leb (x * (n + 1)) modulus (quotient-test x n h))
    go (no f) =
        let over : modulus / (n + 1) < x = omega arith in
        rw (lt-leb x (modulus / (n + 1)) over, lt-leb (x * (n + 1)) modulus (quotient-over x n over))

hit_is : (a : ℕ) (p : Parameters) (k i : ℕ) → hit_of (power a (2 * suc i)) (modulus / (size_at p i + 1)) k ≡ cond (chosen a p k i) 1 0
unfolding hit_of chosen
hit_is a p k i = rw (scrambled-by a (2 * suc i) k, quotient-leb (scrambled a (2 * suc i) k) (size_at p i))

moved-is : (t : Bool) (limit first order old : ℕ) → moved_by_lem limit first (cond t 1 0) order old ≡ cond (t && ltb order limit) (first + order) old
unfolding moved_by_lem
moved-is false limit first order old = refl
moved-is true limit first order old = go (dec_le limit order)
  where
    go : Dec (limit ≤ order) → cond (leb limit order) old (first + order) ≡ cond (ltb order limit) (first + order) old
    go (yes h) = rw (le-leb limit order h, le-ltb order limit h)
    go (no f) = rw (lt-leb limit order (omega arith), lt-ltb order limit (omega arith))

limit_is :
    (p : Parameters) (g : Growth) (i page : ℕ) → Limits p → i ≤ g.expansions →
    ltb (rank_at p i page) (limit_at p g i) ≡ expanded_at p g i page
unfolding limit_at expanded_at
limit_is p g i page l h = go (dec_lt i g.expansions)
  where
    go :
        Dec (i < g.expansions) →
        ltb (rank_at p i page) (cond (ltb i g.expansions) (count_at_lem p i) g.expanded) ≡ (leb (suc i) g.expansions || ltb (rank_at p i page) g.expanded)
    go (yes b) = rw (lt-ltb i g.expansions b, lt-ltb (rank_at p i page) (count_at_lem p i) (rank-at-below p l i page))
    go (no f) = rw (le-ltb i g.expansions (omega arith))

-- what step i + 1 makes of a number k on a page: `old` stays, or becomes first + rank
abbrev lane_step : ℕ → Parameters → Growth → ℕ → ℕ → ℕ → ℕ → ℕ → ℕ
lane_step a p g i first k page old =
    moved_by_lem (limit_at p g i) first
    (hit_of (power a (2 * suc i)) (modulus / (size_at p i + 1)) k)
    (rank p.step (count_at_lem p i) (page % count_at_lem p i))
    old

module _ (a : ℕ) (p : Parameters) (g : Growth) (i : ℕ) (l : Limits p) (h : i ≤ g.expansions) where
  lane-step :
      (first k page old : ℕ) →
      lane_step a p g i first k page old ≡ cond (chosen a p k i && expanded_at p g i page) (first + rank_at p i page) old
  unfolding rank_at
  lane-step first k page old =
      rw (hit_is a p k i)
      (moved-is (chosen a p k i) (limit_at p g i) first (rank_at p i page) old
      ∙ rw (limit_is p g i page l h))

  page-step : (k page : ℕ) → lane_step a p g i (size_at p i * count_at_lem p i) k page page ≡ step_from a p g k i page
  unfolding step_from
  page-step k page = lane-step (size_at p i * count_at_lem p i) k page page

  group-step : (k page : ℕ) → lane_step a p g i 0 k page (page % count_at_lem p i) ≡ step_from a p g k i page % count_at_lem p i
  unfolding step_from
  group-step k page =
      lane-step 0 k page (page % count_at_lem p i)
      ∙ go (chosen a p k i && expanded_at p g i page)
    where
      go :
          (t : Bool) →
          cond t (0 + rank_at p i page) (page % count_at_lem p i) ≡ cond t (size_at p i * count_at_lem p i + rank_at p i page) page % count_at_lem p i
      go true =
          sym
          (mul-add-mod_self_right (size_at p i) (count_at_lem p i) (rank_at p i page)
          ∙ mod-eq_of_lt (rank-at-below p l i page)
          ∙ omega arith)
      go false = refl

  -- the same of eight numbers, in terms of what the code holds
  module _
      (keys : List ℕ) (factor : ℕ) (sweep : Sweep) (stage : Stage) (limit : ℕ) (groups pages : List ℕ)
      (fe : factor ≡ power a (2 * suc i))
      (se : sweep ≡ sweep_of p.step)
      (te : stage ≡ stage_at p i)
      (le : limit ≡ limit_at p g i)
      (ge : groups ≡ lanes 8 (λ j. get_or pages j 0 % stage.count))
      (pe : pages ≡ pages_after_lem a p g keys i) where
    page-lane : (j : ℕ) → j < 8 → get_or pages j 0 ≡ after_steps a p g (get_or keys j 0) i
    unfolding pages_after_lem
    page-lane j b = rw pe (lane 8 (λ j. after_steps a p g (get_or keys j 0) i) j b)

    group-lane : (j : ℕ) → j < 8 → get_or groups j 0 ≡ after_steps a p g (get_or keys j 0) i % count_at_lem p i
    unfolding stage_at
    group-lane j b =
        rw (ge, te)
        (lane 8 (λ j. get_or pages j 0 % count_at_lem p i) j b
        ∙ ap (λ (x : ℕ). x % count_at_lem p i) (page-lane j b))

    stepped-is :
        (j first old : ℕ) → j < 8 →
        moved_by_lem limit first
        (hit_of factor (modulus / (stage.size + 1)) (get_or keys j 0))
        (rank sweep.step stage.count (get_or groups j 0))
        old
        ≡ lane_step a p g i first (get_or keys j 0) (after_steps a p g (get_or keys j 0) i) old
    unfolding stage_at
    stepped-is j first old b = rw (group-lane j b, fe, se, te, le, sweep_step p.step)

    first-is : stage.size * stage.count ≡ size_at p i * count_at_lem p i
    unfolding stage_at
    first-is = rw te

    pub steps_are :
        (stepped factor sweep stage limit 0 keys groups groups ≡ groups_after_lem a p g keys (i + 1) (count_at_lem p i))
        × (stepped factor sweep stage limit (stage.size * stage.count) keys groups pages ≡ pages_after_lem a p g keys (i + 1))
    unfolding stepped pages_after_lem groups_after_lem
    steps_are = (
      lanes-same 8 _ _ (λ j b.
          stepped-is j 0 (get_or groups j 0) b
          ∙ rw (group-lane j b) (group-step (get_or keys j 0) (after_steps a p g (get_or keys j 0) i))
          ∙ sym (ap (λ (x : ℕ). x % count_at_lem p i) (steps_one a p g (get_or keys j 0) i))),
      lanes-same 8 _ _ (λ j b.
          stepped-is j (stage.size * stage.count) (get_or pages j 0) b
          ∙ rw (page-lane j b, first-is) (page-step (get_or keys j 0) (after_steps a p g (get_or keys j 0) i))
          ∙ sym (steps_one a p g (get_or keys j 0) i)),
    )

-- the loops of a step together
module _ (sweep : Sweep) (stage : Stage) (groups orders : List ℕ) (oe : orders ≡ lanes 8 (λ j. rank sweep.step stage.count (get_or groups j 0))) where
  order-lane : (j : ℕ) → j < 8 → get_or orders j 0 ≡ rank sweep.step stage.count (get_or groups j 0)
  order-lane j b = rw oe (lane 8 (λ j. rank sweep.step stage.count (get_or groups j 0)) j b)

  pub stepped-lanes :
      (factor limit most : ℕ) (keys hits : List ℕ) → most ≡ modulus / (stage.size + 1) →
      hits ≡ lanes 8 (λ j. hit_of factor most (get_or keys j 0)) → (first : ℕ) (old : List ℕ) →
      lanes 8 (λ j. moved_by_lem limit first (get_or hits j 0) (get_or orders j 0) (get_or old j 0)) ≡ stepped factor sweep stage limit first keys groups old
  unfolding stepped
  stepped-lanes factor limit most keys hits me he first old =
      lanes-same 8 _ _ (λ j b. rw (order-lane j b, he, lane 8 (λ j. hit_of factor most (get_or keys j 0)) j b, me))

  pub orders_under : Rankable sweep stage → Under stage.count groups → Under 1024 orders
  orders_under r u j b =
      rw (order-lane j b)
      (omega (
        arith,
        rank_below sweep.step stage.count (get_or groups j 0) (u j b) r.step_least r.step_count,
        r.count_most,
      ))

-- what the functions of a step ask
pub groups-under : (n : ℕ) (pages groups : List ℕ) → 1 ≤ n → groups ≡ lanes 8 (λ j. get_or pages j 0 % n) → Under n groups
groups-under n pages groups h e j b = rw (e, lane 8 (λ j. get_or pages j 0 % n) j b) (mod-lt (get_or pages j 0) {m = n} h)

module _ (a : ℕ) (p : Parameters) (g : Growth) (keys : List ℕ) (i : ℕ) where
  pub pages-length : length (pages_after_lem a p g keys i) ≡ 8
  unfolding pages_after_lem
  pages-length = lanes-length 8 (λ j. after_steps a p g (get_or keys j 0) i)

  pub groups-length : (n : ℕ) → length (groups_after_lem a p g keys i n) ≡ 8
  unfolding groups_after_lem
  groups-length n = lanes-length 8 (λ j. after_steps a p g (get_or keys j 0) i % n)

  pub page-at : (j : ℕ) → j < 8 → get_or (pages_after_lem a p g keys i) j 0 ≡ after_steps a p g (get_or keys j 0) i
  unfolding pages_after_lem
  page-at j b = lane 8 (λ j. after_steps a p g (get_or keys j 0) i) j b

  module _ (stage : Stage) (pages : List ℕ) (te : stage ≡ stage_at p i) (pe : pages ≡ pages_after_lem a p g keys i) where
    pub pages-under : Limits p → Under (stage.size * stage.count) pages
    pages-under l j b = rw (pe, page-at j b, stage_size p i stage te, stage_count p i stage te) (steps_below a p l g (get_or keys j 0) i)

    pub groups-known :
        (groups : List ℕ) → Grouped a p g keys i groups → (stage.size ≡ p.width → ⊥) → groups ≡ lanes 8 (λ j. get_or pages j 0 % stage.count)
    unfolding groups_after_lem
    groups-known groups known f =
        known (λ e. f (stage_size p i stage te ∙ e))
        ∙ lanes-same 8 _ _ (λ j b. rw (pe, page-at j b, stage_count p i stage te))

-- before the first step, and after the last
-- a loop over the blocks that steps each, after one more turn
module _ (geometry : Geometry) (keys : List ℕ) (i : ℕ) (l l' : List ℕ) (at : ℕ) (start : at % 8 ≡ 0) (fits : at + 8 ≤ length l) where
  abbrev groups_next : ℕ → List ℕ
  groups_next b = groups_after_lem (multiplier_of geometry.parameters) geometry.parameters geometry.growth (block_at keys b) (i + 1) (count_at_lem geometry.parameters i)

  abbrev pages_next : ℕ → List ℕ
  pages_next b = pages_after_lem (multiplier_of geometry.parameters) geometry.parameters geometry.growth (block_at keys b) (i + 1)

  pub regrouped-next : l' ≡ paste l at (groups_next at) 8 → Blocks at (RegroupedAt geometry keys i l) → Blocks (at + 8) (RegroupedAt geometry keys i l')
  regrouped-next e old = blocks-next l l' (groups_next at) at start fits (groups-length _ _ _ _ _ _) e (λ b block. block ≡ groups_next b) old refl

  pub paged-next : l' ≡ paste l at (pages_next at) 8 → Blocks at (PagedAt geometry keys (i + 1) l) → Blocks (at + 8) (PagedAt geometry keys (i + 1) l')
  paged-next e old = blocks-next l l' (pages_next at) at start fits (pages-length _ _ _ _ _) e (λ b block. block ≡ pages_next b) old refl

pub starts-are :
    (a factor : ℕ) (p : Parameters) (g : Growth) (keys : List ℕ) → factor ≡ power a 1 →
    lanes 8 (λ j. factor * get_or keys j 0 % modulus % (p.width * p.groups)) ≡ pages_after_lem a p g keys 0
unfolding pages_after_lem after_steps
starts-are a factor p g keys e = lanes-same 8 _ _ (λ j b. rw (e, scrambled-by a 1 (get_or keys j 0)))

-- a key has its number's home
module _ (a k : ℕ) where
  scrambled-key : (j : ℕ) → scrambled a j (residue_of k) ≡ scrambled a j k
  unfolding scrambled residue_of
  scrambled-key j =
      sym (mul_mod_right (a ^ j) modulus (residue_of k))
      ∙ ap (λ (t : ℕ). a ^ j * t % modulus) (halves k)
      ∙ mul_mod_right (a ^ j) modulus k

  after-key : (p : Parameters) (g : Growth) (i : ℕ) → after_steps a p g (residue_of k) i ≡ after_steps a p g k i
  unfolding after_steps step_from chosen
  after-key p g zero = rw (scrambled-key 1)
  after-key p g (suc i) = rw (scrambled-key (2 * suc i), after-key p g i)

pub homes-are :
    (a : ℕ) (p : Parameters) (g : Growth) (numbers keys : List ℕ) (at : ℕ) → keys ≡ keys_at numbers at →
    (i : ℕ) → i < 8 → get_or (pages_after_lem a p g keys (g.expansions + 1)) i 0 ≡ home a p g (get_or numbers (at + i) 0)
unfolding keys_at home
homes-are a p g numbers keys at e i h =
    page-at a p g keys (g.expansions + 1) i h
    ∙ rw (e, lane 8 (λ i. residue_of (get_or numbers (at + i) 0)) i h) (after-key a (get_or numbers (at + i) 0) p g (g.expansions + 1))
