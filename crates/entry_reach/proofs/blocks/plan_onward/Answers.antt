use mathlib.Core.Path.{◌≡◌, refl, ap, ◌∙◌, subst}
use mathlib.Core.Bool.{true}
use mathlib.Core.List.{List}
use Prim.Native.Nat.{ℕ, suc, ◌+◌, ◌*◌, ◌≤◌, ◌<◌}
use native.Mathlib.Nat.{le_refl}
use native.Mathlib.Numerals.{add-one}
use native.Mathlib.Omega.{arith}
use lib.ListN.{length, take}
use Rattle.hashing.proofs.Bounds.{Limits, limits}
use Rattle.pages.specs.Position.{valid_number}
use Rattle.placement.specs.File.{File}
use Rattle.placement.specs.Hash.{lent}
use Rattle.reach.proofs.Surveyed.{known-none}
use Rattle.entry_reach.specs.declared.blocks.Extent.{Extent}
use Rattle.entry_reach.specs.declared.blocks.Block.{Block}
use Rattle.entry_reach.specs.declared.blocks.Block.TheVariants.{Planned as block·Planned, Unsound as block·Unsound, Crowded}
use Rattle.entry_reach.specs.declared.blocks.Reach.TheVariants.{Ends, Unsound, Overflows}
use Rattle.entry_reach.specs.Entry.{Unheld, new_star_lem, reach_answer, AppliesFrom, block_count, Extends, BlockPlanned}
use Rattle.entry_reach.specs.Blocks.{Reached}
use Rattle.entry_reach.proofs.Reached.{unsound-ends, overflows_ends, block-such, block-most, block-sum, reached-unsound, reached-crowded, block-ends, block-applies, block-overflows, block-next, planned-near, planned-few}
use Rattle.entry_reach.proofs.Surveyed.{extent-from}
use Rattle.entry_reach.proofs.blocks.plan_onward.Lts as lts
use Rattle.entry_reach.proofs.blocks.plan_onward.Tie as tie
use Rattle.entry_reach.proofs.blocks.plan_onward.Reads as reads
use Rattle.entry_reach.proofs.blocks.plan_onward.Goals as goal
use Rattle.entry_reach.proofs.blocks.plan_onward.Goals.{Start}

abbrev At-loop-page : Type 0
At-loop-page = lts.At-loop tie.the-claims reads.Pre reads.Post goal.the-invariant-loop-page goal.the-decreases-loop-page tie.handed_clauses

abbrev After-plan_block : Type 0
After-plan_block = lts.After-plan_block tie.the-claims reads.Pre reads.Post goal.the-invariant-loop-page goal.the-decreases-loop-page tie.handed_clauses

abbrev file : Start → File
file s = lent s.args.separators.now s.args.numbers.now s.args.words.now s.args.owners.now

bounds : (s : Start) → Limits s.args.geometry.parameters
bounds s = limits s.args.geometry.parameters s.requires.ready.homing.valid

-- from the plan of a block on
abbrev Place : Type 0
Place = After-plan_block

abbrev start : Place → Start
start x = x.before.before.before.before.before.before.before.before.before.before.before.before.before

abbrev head : Place → At-loop-page
head x = x.before.before.before.before

abbrev pool' : Place → List ℕ
pool' x = x.plan_block.new.pool

abbrev waiting' : Place → List ℕ
waiting' x = x.plan_block.new.waiting

abbrev planned' : Place → List ℕ
planned' x = x.plan_block.new.planned

told : (x : Place) (b : Block) → x.plan_block.result ≡ b
    → BlockPlanned (start x).args.geometry.parameters (start x).args.geometry.growth (file (start x)) (head x).loop-page.block.first (take (head x).loop-page.carried (head x).loop-page.waiting)
    (head x).loop-page.pool (pool' x) (head x).loop-page.planned (planned' x) (waiting' x) b
told x b e =
    subst (λ (b : Block). BlockPlanned (start x).args.geometry.parameters (start x).args.geometry.growth (file (start x)) (head x).loop-page.block.first (take (head x).loop-page.carried (head x).loop-page.waiting)
    (head x).loop-page.pool (pool' x) (head x).loop-page.planned (planned' x) (waiting' x) b) e x.plan_block.ensures

pool-long : (x : Place) → length (head x).loop-page.pool ≡ (start x).args.geometry.parameters.pages * (start x).args.geometry.parameters.places
pool-long x = (head x).loop-page.invariant.0 ∙ (start x).requires.pool_len.0

planned-long : (x : Place) → (start x).args.geometry.parameters.pages ≤ length (head x).loop-page.planned
planned-long x = omega (arith, (head x).loop-page.invariant.1.1.0, (start x).requires.pages_in_bounds)

-- its pages
extent : (x : Place) → Extends (start x).args.geometry.parameters (start x).args.geometry.growth (file (start x)) (head x).loop-page.pool (head x).loop-page.block
extent x = (head x).loop-page.invariant.1.1.1.1.1.0

ended : (x : Place) → (head x).loop-page.block.last < (start x).args.geometry.parameters.pages
ended x =
    let s = start x in
    omega (arith, (extent x).ends, block-most s.args.geometry.parameters s.args.geometry.growth (file s) (head x).loop-page.block.first (extent x).inside)

inside : (x : Place) → ((head x).loop-page.block.last + 1 ≡ (start x).args.geometry.parameters.pages → ⊥) → (head x).loop-page.block.last + 1 < (start x).args.geometry.parameters.pages
inside x h = omega (arith, h, ended x)

-- a star whose reach it is
abbrev Whose : Place → ℕ → ℕ → Type 0
Whose x k page =
    Reached (start x).args.geometry.parameters (start x).args.geometry.growth (file (start x)) k page (start x).args.first.first (start x).args.pool.now (start x).args.planned.now
    (take (start x).args.incoming (start x).args.waiting.now)

module _ (x : Place) (k page : ℕ) (number : valid_number k ≡ true) (unheld : Unheld (start x).args.geometry.parameters (start x).args.geometry.growth (file (start x)) k) (first : Whose x k page) where
  abbrev s : Start
  s = start x

  reached : Reached s.args.geometry.parameters s.args.geometry.growth (file s) k page (head x).loop-page.block.first (head x).loop-page.pool (head x).loop-page.planned (take (head x).loop-page.carried (head x).loop-page.waiting)
  reached = (head x).loop-page.invariant.1.1.1.1.1.1 k page number unheld first

  unsound-here : (bad : ℕ) → x.plan_block.result ≡ block·Unsound bad → (word owner : ℕ) → Unsound bad ≡ reach_answer s.args.geometry.parameters s.args.geometry.growth (file s) (new_star_lem k word owner)
  unsound-here bad e =
      reached-unsound s.args.geometry.parameters s.args.geometry.growth (file s) k s.requires.ready.homing.valid s.requires.ready.sized number unheld page (head x).loop-page.block.first (head x).loop-page.pool (head x).loop-page.planned
      (take (head x).loop-page.carried (head x).loop-page.waiting) reached bad (told x (block·Unsound bad) e)

  crowded-here : x.plan_block.result ≡ Crowded → (word owner : ℕ) → Overflows ≡ reach_answer s.args.geometry.parameters s.args.geometry.growth (file s) (new_star_lem k word owner)
  crowded-here e =
      reached-crowded s.args.geometry.parameters s.args.geometry.growth (file s) k s.requires.ready.homing.valid s.requires.ready.sized number unheld page (head x).loop-page.block.first (head x).loop-page.pool (head x).loop-page.planned
      (take (head x).loop-page.carried (head x).loop-page.waiting) reached (told x Crowded e)

  module _ (left : ℕ) (e : x.plan_block.result ≡ block·Planned left) where
    ends-here : left ≡ 0 → (word owner : ℕ) → Ends (head x).loop-page.block.last ≡ reach_answer s.args.geometry.parameters s.args.geometry.growth (file s) (new_star_lem k word owner)
    ends-here =
        block-ends s.args.geometry.parameters s.args.geometry.growth (file s) k s.requires.ready.homing.valid s.requires.ready.sized number unheld page (head x).loop-page.block.first (head x).loop-page.pool (head x).loop-page.planned
        (take (head x).loop-page.carried (head x).loop-page.waiting) reached (pool' x) (planned' x) (waiting' x) left (pool-long x) (planned-long x) (told x (block·Planned left) e) (head x).loop-page.block.last (extent x).ends

    applies-here : left ≡ 0 → AppliesFrom s.args.geometry.parameters s.args.geometry.growth (file s) k page (pool' x) (planned' x) (Ends (head x).loop-page.block.last)
    applies-here =
        block-applies s.args.geometry.parameters s.args.geometry.growth (file s) k s.requires.ready.homing.valid s.requires.ready.sized number unheld page (head x).loop-page.block.first (head x).loop-page.pool (head x).loop-page.planned
        (take (head x).loop-page.carried (head x).loop-page.waiting) reached (pool' x) (planned' x) (waiting' x) left (pool-long x) (planned-long x) (told x (block·Planned left) e) (head x).loop-page.block.last (extent x).ends

    overflows-here : (left ≡ 0 → ⊥) → suc (head x).loop-page.block.last ≡ s.args.geometry.parameters.pages → (word owner : ℕ) → Overflows ≡ reach_answer s.args.geometry.parameters s.args.geometry.growth (file s) (new_star_lem k word owner)
    overflows-here =
        block-overflows s.args.geometry.parameters s.args.geometry.growth (file s) k s.requires.ready.homing.valid s.requires.ready.sized number unheld page (head x).loop-page.block.first (head x).loop-page.pool (head x).loop-page.planned
        (take (head x).loop-page.carried (head x).loop-page.waiting) reached (pool' x) (planned' x) (waiting' x) left (pool-long x) (planned-long x) (told x (block·Planned left) e) (head x).loop-page.block.last (extent x).ends

    goes_on : (left ≡ 0 → ⊥) → suc (head x).loop-page.block.last < s.args.geometry.parameters.pages → Reached s.args.geometry.parameters s.args.geometry.growth (file s) k page (suc (head x).loop-page.block.last) (pool' x) (planned' x) (take left (waiting' x))
    goes_on =
        block-next s.args.geometry.parameters s.args.geometry.growth (file s) k s.requires.ready.homing.valid s.requires.ready.sized number unheld page (head x).loop-page.block.first (head x).loop-page.pool (head x).loop-page.planned
        (take (head x).loop-page.carried (head x).loop-page.waiting) reached (pool' x) (planned' x) (waiting' x) left (pool-long x) (planned-long x) (told x (block·Planned left) e) (head x).loop-page.block.last (extent x).ends

pub loop-page-init : goal.loop-page-init
loop-page-init c =
    let s = c.before.before.before.before.before.before.before.before.before in
    (refl, (refl, (refl, (s.requires.incoming_in_bounds.0, (s.requires.incoming_in_bounds.1, (s.requires.extends, λ k page number unheld first. first))))))

pub plan_block-requires : goal.plan_block-requires
plan_block-requires c =
    let s = c.before.before.before.before.before.before.before.before.before.before.before.before.before in
    let l = c.loop-page in
    record {
      ready = s.requires.ready;
      pool_len = (l.invariant.0 ∙ s.requires.pool_len.0, l.invariant.1.0 ∙ s.requires.pool_len.1);
      pages_in_bounds = omega (arith, l.invariant.1.1.0, s.requires.pages_in_bounds);
      incoming_in_bounds = (l.invariant.1.1.1.0, l.invariant.1.1.1.1.0);
      extends = l.invariant.1.1.1.1.1.0;
    }

pub returns-in-Unsound : goal.returns-in-Unsound
returns-in-Unsound c =
    λ k page number unheld first.
    let x = c.before.before.before.before.before.before.before.before in
    let w = c.in-Unsound in
    (unsound-here x k page number unheld first w.page w.is, λ word owner last e. absurd (unsound-ends w.page last e))

pub returns-in-Crowded : goal.returns-in-Crowded
returns-in-Crowded c =
    λ k page number unheld first.
    (crowded-here c.before.before.before.before.before.before.before.before k page number unheld first c.in-Crowded.is, λ word owner last e. absurd (overflows_ends last e))

pub returns-then-left-eq0 : goal.returns-then-left-eq0
returns-then-left-eq0 c =
    λ k page number unheld first.
    let x = c.before.before.before.before.before.before.before.before.before in
    let w = c.in-Planned in
    (ends-here x k page number unheld first w.left w.is c.if-left-eq0.true, applies-here x k page number unheld first w.left w.is c.if-left-eq0.true)

pub overflow_add-next : goal.overflow_add-next
overflow_add-next c =
    let x = c.before.before.before.before.before.before.before.before.before.before in
    omega (arith, ended x, (bounds (start x)).pages_most)

pub returns-then-next-pages : goal.returns-then-next-pages
returns-then-next-pages c =
    λ k page number unheld first.
    let x = c.before.before.before.before.before.before.before.before.before.before.before in
    let w = c.in-Planned in
    (overflows-here x k page number unheld first w.left w.is c.if-left-eq0.false (omega (arith, c.if-next-pages.true)), λ word owner last e. absurd (overflows_ends last e))

pub block_from-block-requires : goal.block_from-block-requires
block_from-block-requires c =
    let x = c.before.before.before.before.before.before.before.before.before.before.before.before in
    let s = start x in
    record {
      parameters_value = s.requires.ready.homing.valid;
      first_in_bounds = omega (arith, inside x c.if-next-pages.false, s.requires.ready.sized.of_separators);
    }

pub loop-page-smaller : goal.loop-page-smaller
loop-page-smaller c =
    let x = c.before.before.before.before.before.before.before.before.before.before.before.before.before in
    let s = start x in
    let begun : c.block_from-block.result.first ≡ (head x).loop-page.block.last + 1 = ap (λ (e : Extent). e.first) c.block_from-block.ensures in
    omega (arith, begun, (extent x).ends, (block-such s.args.geometry.parameters s.args.geometry.growth (file s) (head x).loop-page.block.first (extent x).inside).low, (extent x).inside)

pub loop-page-preserved : goal.loop-page-preserved
loop-page-preserved c =
    let x = c.before.before.before.before.before.before.before.before.before.before.before.before.before in
    let s = start x in
    let p = s.args.geometry.parameters in
    let w = c.in-Planned in
    let plan = (told x (block·Planned w.left) w.is).plan in
    let begun : c.block_from-block.result.first ≡ (head x).loop-page.block.last + 1 = ap (λ (e : Extent). e.first) c.block_from-block.ensures in
    let next : (head x).loop-page.block.last + 1 ≡ (head x).loop-page.block.first + block_count s.args.geometry.parameters s.args.geometry.growth (file s) (head x).loop-page.block.first =
    omega (arith, (extent x).ends, block-sum s.args.geometry.parameters s.args.geometry.growth (file s) (head x).loop-page.block.first (extent x).inside) in (
      x.plan_block.auto.pool ∙ (head x).loop-page.invariant.0,
      (
        x.plan_block.auto.waiting ∙ (head x).loop-page.invariant.1.0,
        (
          x.plan_block.auto.planned ∙ (head x).loop-page.invariant.1.1.0,
          (
            planned-few p _ _ _ _ _ _ _ _ _ _ plan,
            (
              rw (begun, next) (planned-near p _ _ _ _ _ _ _ _ _ _ plan (head x).loop-page.invariant.1.1.1.1.0),
              (
                extent-from s.args.geometry.parameters s.args.geometry.growth (file s) (pool' x) s.requires.ready.sized ((head x).loop-page.block.last + 1) p.pages (inside x c.if-next-pages.false)
                    (known-none s.args.geometry.parameters s.args.geometry.growth (file s) _ _ (le_refl _)) c.block_from-block.result c.block_from-block.ensures,
                λ k page number unheld first.
                    rw (begun, add-one (head x).loop-page.block.last)
                    (goes_on x k page number unheld first w.left w.is c.if-left-eq0.false (omega (arith, inside x c.if-next-pages.false))),
              ),
            ),
          ),
        ),
      ),
    )
