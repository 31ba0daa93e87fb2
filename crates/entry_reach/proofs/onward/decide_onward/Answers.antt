use mathlib.Core.Path.{◌≡◌, sym, ap, ◌∙◌}
use Prim.Native.Nat.{ℕ, suc, ◌+◌, ◌-◌, ◌≤◌, ◌<◌}
use native.Mathlib.Nat.{le_refl}
use native.Mathlib.Numerals.{add-one}
use native.Mathlib.Omega.{arith}
use lib.ListN.{length, take}
use Rattle.hashing.proofs.Bounds.{Limits, limits}
use Rattle.placement.specs.File.{File}
use Rattle.placement.specs.Hash.{lent}
use Rattle.reach.specs.Reach.{pages_to}
use Rattle.reach.proofs.Surveyed.{known-none}
use Rattle.entry_reach.specs.declared.blocks.Extent.{Extent}
use Rattle.entry_reach.specs.declared.blocks.Reach.TheVariants.{Ends}
use Rattle.entry_reach.specs.Entry.{new_star_lem, reach_answer, AppliesFrom}
use Rattle.entry_reach.specs.Blocks.{Reached, LeavesRun}
use Rattle.entry_reach.proofs.Reached.{leaves-overflows, leaves-next}
use Rattle.entry_reach.proofs.Surveyed.{extent-from}
use Rattle.entry_reach.proofs.Holding.{unsound-answer, overflows_answer, last-past, written-decided}
use Rattle.entry_reach.proofs.Runs.{home-inside}
use Rattle.entry_reach.proofs.onward.decide_onward.Lts as lts
use Rattle.entry_reach.proofs.onward.decide_onward.Tie as tie
use Rattle.entry_reach.proofs.onward.decide_onward.Reads as reads
use Rattle.entry_reach.proofs.onward.decide_onward.Goals as goal
use Rattle.entry_reach.proofs.onward.decide_onward.Goals.{Start}

abbrev After-block_from-block : Type 0
After-block_from-block = lts.After-block_from tie.the-claims reads.Pre reads.Post tie.handed_clauses

abbrev After-plan_onward : Type 0
After-plan_onward = lts.After-plan_onward tie.the-claims reads.Pre reads.Post tie.handed_clauses

abbrev file : Start → File
file s = lent s.args.separators.now s.args.numbers.now s.args.words.now s.args.owners.now

bounds : (s : Start) → Limits s.args.geometry.parameters
bounds s = limits s.args.geometry.parameters s.requires.enters.ready.homing.valid

leaves : (s : Start) → LeavesRun s.args.geometry.parameters s.args.geometry.growth (file s) s.args.star.number s.args.star.page s.args.last s.args.pool.now s.args.planned.now (take s.args.carried s.args.waiting.now)
leaves s = s.requires.leaves_run

inside : (s : Start) → s.args.last < s.args.geometry.parameters.pages
inside s = omega (arith, (leaves s).at, (leaves s).spanned.most)

abbrev begun : After-block_from-block → Start
begun b = b.before.before.before.before.before.before.before.before.before.before.before

further : (b : After-block_from-block) → b.block_from-block.result.first < (begun b).args.geometry.parameters.pages
further b = let start : b.block_from-block.result.first ≡ (begun b).args.last + 1 = ap (λ (e : Extent). e.first) b.block_from-block.ensures in omega (arith, start, inside (begun b), b.if-next-pages.false)

-- the run is passed
reached : (b : After-block_from-block) → Reached (begun b).args.geometry.parameters (begun b).args.geometry.growth (file (begun b)) (begun b).args.star.number (begun b).args.star.page
    b.block_from-block.result.first (begun b).args.pool.now (begun b).args.planned.now (take (begun b).args.carried (begun b).args.waiting.now)
reached b =
    let s = begun b in
    let e = s.requires.enters in
    let start : b.block_from-block.result.first ≡ suc s.args.last = ap (λ (e : Extent). e.first) b.block_from-block.ensures ∙ add-one s.args.last in
    leaves-next s.args.geometry.parameters s.args.geometry.growth (file s) s.args.star.number e.ready.homing.valid e.ready.sized e.number e.unheld s.args.star.page s.args.last s.args.pool.now s.args.planned.now
    (take s.args.carried s.args.waiting.now) (leaves s) b.block_from-block.result.first start (further b)

-- from the plan on
abbrev Place : Type 0
Place = After-plan_onward

abbrev block : Place → After-block_from-block
block x = x.before.before.before.before

abbrev start : Place → Start
start x = begun (block x)

told : (x : Place) → ((word owner : ℕ) → x.plan_onward.result ≡ reach_answer (start x).args.geometry.parameters (start x).args.geometry.growth (file (start x)) (new_star_lem (start x).args.star.number word owner))
    × AppliesFrom (start x).args.geometry.parameters (start x).args.geometry.growth (file (start x)) (start x).args.star.number (start x).args.star.page
    x.plan_onward.new.pool x.plan_onward.new.planned x.plan_onward.result
told x = let s = start x in x.plan_onward.ensures s.args.star.number s.args.star.page s.requires.enters.number s.requires.enters.unheld (reached (block x))

planned-long : (x : Place) → (start x).args.geometry.parameters.pages ≤ length x.plan_onward.new.planned
planned-long x = omega (arith, (start x).requires.pages_in_bounds, x.plan_onward.auto.planned)

module _ (x : Place) (end : ℕ) (v : x.plan_onward.result ≡ Ends end) where
  answer : Ends end ≡ reach_answer (start x).args.geometry.parameters (start x).args.geometry.growth (file (start x)) (new_star_lem (start x).args.star.number (start x).args.star.word (start x).args.star.owner)
  answer = sym v ∙ (told x).0 (start x).args.star.word (start x).args.star.owner

  low : (start x).args.star.page ≤ end
  low =
      let s = start x in
      let r = reached (block x) in
      omega (arith, r.at, last-past s.args.geometry.parameters s.args.geometry.growth (file s) s.args.star.number s.args.star.word s.args.star.owner end answer (block x).block_from-block.result.first (further (block x)) (r.passed s.args.star.word s.args.star.owner))

  high : end < (start x).args.geometry.parameters.pages
  high = ((told x).1 (start x).args.star.word (start x).args.star.owner end v).0

pub overflow_add-next : goal.overflow_add-next
overflow_add-next c = let s = c.before.before.before.before.before.before.before.before.before in omega (arith, inside s, (bounds s).pages_most)

pub returns-then-next-pages : goal.returns-then-next-pages
returns-then-next-pages c =
    let s = c.before.before.before.before.before.before.before.before.before.before in
    let e = s.requires.enters in
    let done = overflows_answer s.args.geometry.parameters s.args.geometry.growth (file s) s.args.star.number s.args.star.word s.args.star.owner
    (leaves-overflows s.args.geometry.parameters s.args.geometry.growth (file s) s.args.star.number e.ready.homing.valid e.ready.sized e.number e.unheld s.args.star.page s.args.last s.args.pool.now s.args.planned.now
    (take s.args.carried s.args.waiting.now) (leaves s) (omega (arith, c.if-next-pages.true)) s.args.star.word s.args.star.owner) in
    record { answers = done.0; files = done.1; feasible = tt }

pub block_from-block-requires : goal.block_from-block-requires
block_from-block-requires c = let s = c.before.before.before.before.before.before.before.before.before.before.before in record {
  parameters_value = s.requires.enters.ready.homing.valid;
  first_in_bounds = omega (arith, c.if-next-pages.false, inside s, s.requires.enters.ready.sized.of_separators);
}

pub plan_onward-requires : goal.plan_onward-requires
plan_onward-requires c =
    let b = c.before.before.before.before in
    let s = begun b in
    let r = reached b in record {
      ready = s.requires.enters.ready;
      pool_len = s.requires.pool_len;
      pages_in_bounds = s.requires.pages_in_bounds;
      incoming_in_bounds = (s.requires.carried_in_bounds, rw r.at r.spanned.words.near);
      extends = extent-from s.args.geometry.parameters s.args.geometry.growth (file s) s.args.pool.now s.requires.enters.ready.sized (s.args.last + 1) s.args.geometry.parameters.pages (omega (arith, b.if-next-pages.false, inside s))
          (known-none s.args.geometry.parameters s.args.geometry.growth (file s) _ _ (le_refl _)) b.block_from-block.result b.block_from-block.ensures;
    }

pub name_page-page-requires : goal.name_page-page-requires
name_page-page-requires c =
    let x = c.before.before.before.before.before.before.before.before.before in
    let s = start x in
    let w = c.in-Ends in
    record {
      homing = s.requires.enters.ready.homing;
      separators_len = (s.requires.enters.ready.sized.of_separators, planned-long x);
      page_le_end = (low x w.end w.is, high x w.end w.is);
      home_value = s.requires.enters.homed;
    }

pub overflow_add-count : goal.overflow_add-count
overflow_add-count c =
    let x = c.before.before.before.before.before.before.before.before.before.before.before.before in
    let w = c.in-Ends in
    omega (arith, high x w.end w.is, (bounds (start x)).pages_most)

pub overflow_sub-count : goal.overflow_sub-count
overflow_sub-count c =
    let x = c.before.before.before.before.before.before.before.before.before.before.before.before.before in
    let w = c.in-Ends in
    omega (arith, low x w.end w.is)

pub returns-in-Unsound : goal.returns-in-Unsound
returns-in-Unsound c =
    let x = c.before.before.before.before.before.before.before.before in
    let s = start x in
    let w = c.in-Unsound in
    let done = unsound-answer s.args.geometry.parameters s.args.geometry.growth (file s) s.args.star.number s.args.star.word s.args.star.owner w.page (sym w.is ∙ (told x).0 s.args.star.word s.args.star.owner) in
    record { answers = done.0; files = done.1; feasible = tt }

pub returns-in-Overflows : goal.returns-in-Overflows
returns-in-Overflows c =
    let x = c.before.before.before.before.before.before.before.before in
    let s = start x in
    let done = overflows_answer s.args.geometry.parameters s.args.geometry.growth (file s) s.args.star.number s.args.star.word s.args.star.owner (sym c.in-Overflows.is ∙ (told x).0 s.args.star.word s.args.star.owner) in
    record { answers = done.0; files = done.1; feasible = tt }

pub returns-in-Ends : goal.returns-in-Ends
returns-in-Ends c =
    let x = c.before.before.before.before.before.before.before.before.before.before.before.before.before in
    let n = c.name_page-page in
    let s = start x in
    let w = c.in-Ends in
    let end = w.end in
    let count : end + 1 - s.args.star.page ≡ pages_to s.args.star.page end = omega (arith, low x end w.is) in
    written-decided s.args.geometry.parameters s.args.geometry.growth (file s) s.args.star.number s.args.star.word s.args.star.owner end (answer x end w.is)
    x.plan_onward.new.pool x.plan_onward.new.planned n.new.planned s.args.star.page end n.result
    (omega (arith, home-inside s.args.geometry.parameters s.args.geometry.growth (file s) s.args.star.number s.requires.enters.ready.sized s.requires.enters.unheld, s.requires.enters.ready.sized.of_separators)) (low x end w.is) (high x end w.is)
    (omega (arith, planned-long x, n.auto.planned)) (rw count ((told x).1 s.args.star.word s.args.star.owner end w.is).1) n.ensures.planned_unchanged n.ensures.value
