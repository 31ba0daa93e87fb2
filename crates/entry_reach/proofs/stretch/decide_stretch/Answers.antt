use mathlib.Core.Path.{◌≡◌, sym, ◌∙◌}
use Prim.Native.Nat.{ℕ, ◌≤◌, ◌<◌}
use native.Mathlib.Omega.{arith}
use lib.ListN.{length}
use lib.Seq.{length-take-le}
use Rattle.hashing.proofs.Bounds.{Limits, limits}
use Rattle.placement.specs.File.{File}
use Rattle.placement.specs.Hash.{lent}
use Rattle.entry_reach.specs.declared.blocks.Reach.TheVariants.{Ends}
use Rattle.entry_reach.specs.Entry.{new_star_lem, entry_start, reach_answer}
use Rattle.entry_reach.proofs.Reached.{home-starts}
use Rattle.entry_reach.proofs.Holding.{unsound-answer, overflows_answer, last-least, ends_decided}
use Rattle.entry_reach.proofs.stretch.decide_stretch.Lts as lts
use Rattle.entry_reach.proofs.stretch.decide_stretch.Tie as tie
use Rattle.entry_reach.proofs.stretch.decide_stretch.Reads as reads
use Rattle.entry_reach.proofs.stretch.decide_stretch.Goals as goal
use Rattle.entry_reach.proofs.stretch.decide_stretch.Goals.{Start}

abbrev After-plan_entry : Type 0
After-plan_entry = lts.After-plan_entry tie.the-claims reads.Pre reads.Post tie.handed_clauses

abbrev file : Start → File
file s = lent s.args.separators.now s.args.numbers.now s.args.words.now s.args.owners.now

bounds : (s : Start) → Limits s.args.geometry.parameters
bounds s = limits s.args.geometry.parameters s.requires.enters.ready.homing.valid

home-is : (s : Start) → s.args.star.home ≡ entry_start s.args.geometry.parameters s.args.geometry.growth s.args.star.number
home-is s = s.requires.enters.homed ∙ home-starts s.args.geometry.parameters s.args.geometry.growth s.args.star.number

-- from the plan on
abbrev start : After-plan_entry → Start
start c = c.before.before.before.before.before.before.before.before.before.before.before.before.before

longer : (c : After-plan_entry) → (start c).args.geometry.parameters.pages ≤ length c.plan_entry.new.planned
longer c = omega (arith, (start c).requires.pages_in_bounds, c.plan_entry.auto.planned)

module _ (c : After-plan_entry) (last : ℕ) (v : c.plan_entry.result ≡ Ends last) where
  answer : Ends last ≡ reach_answer (start c).args.geometry.parameters (start c).args.geometry.growth (file (start c)) (new_star_lem (start c).args.star.number (start c).args.star.word (start c).args.star.owner)
  answer = sym v ∙ c.plan_entry.ensures.by_index (start c).args.star.word (start c).args.star.owner

  low : (start c).args.star.home ≤ last
  low =
      let s = start c in
      rw (home-is s) (last-least s.args.geometry.parameters s.args.geometry.growth (file s) s.args.star.number s.args.star.word s.args.star.owner last answer)

  high : last < (start c).args.geometry.parameters.pages
  high = (c.plan_entry.ensures.applies (start c).args.star.word (start c).args.star.owner last v).0

pub plan_entry-requires : goal.plan_entry-requires
plan_entry-requires c =
    let s = c.before.before.before.before.before.before.before.before.before.before.before.before.before in
    let e = s.requires.enters in
    record {
      ready = e.ready;
      pool_len = s.requires.pool_len;
      pages_in_bounds = s.requires.pages_in_bounds;
      number_value = e.number;
      unheld = e.unheld;
      home_value = (e.homed, s.requires.home_value.0);
      extends = s.requires.home_value.1;
    }

pub slice_bounds-named_from-end : goal.slice_bounds-named_from-end
slice_bounds-named_from-end c = longer c.before.before.before.before.before.before.before.before

pub slice_bounds-named_from-end-in-Ends : goal.slice_bounds-named_from-end-in-Ends
slice_bounds-named_from-end-in-Ends c =
    let x = c.before.before.before.before.before.before.before.before in
    sym (length-take-le (start x).args.geometry.parameters.pages x.plan_entry.new.planned (longer x))

pub named_from-page-requires : goal.named_from-page-requires
named_from-page-requires c =
    let s = c in
    let planned = c.plan_entry in
    record {
      homing = s.requires.enters.ready.homing;
      separators_len = length-take-le s.args.geometry.parameters.pages planned.new.planned (longer c.before.before.before.before.before.before.before.before);
      home_value = s.requires.enters.homed;
    }

pub overflow_add-result : goal.overflow_add-result
overflow_add-result c =
    let x = c.before.before.before.before.before.before.before.before.before in
    let w = c.in-Ends in
    omega (arith, high x w.last w.is, (bounds (start x)).pages_most)

pub overflow_sub-result : goal.overflow_sub-result
overflow_sub-result c =
    let x = c.before.before.before.before.before.before.before.before.before in
    let w = c.in-Ends in
    omega (arith, low x w.last w.is)

pub returns-in-Unsound : goal.returns-in-Unsound
returns-in-Unsound c =
    let x = c.before.before.before.before.before.before.before.before in
    let s = start x in
    let w = c.in-Unsound in
    let done = unsound-answer s.args.geometry.parameters s.args.geometry.growth (file s) s.args.star.number s.args.star.word s.args.star.owner w.page (sym w.is ∙ x.plan_entry.ensures.by_index s.args.star.word s.args.star.owner) in
    record { answers = done.0; files = done.1; feasible = tt }

pub returns-in-Overflows : goal.returns-in-Overflows
returns-in-Overflows c =
    let x = c.before.before.before.before.before.before.before.before in
    let s = start x in
    let done = overflows_answer s.args.geometry.parameters s.args.geometry.growth (file s) s.args.star.number s.args.star.word s.args.star.owner (sym c.in-Overflows.is ∙ x.plan_entry.ensures.by_index s.args.star.word s.args.star.owner) in
    record { answers = done.0; files = done.1; feasible = tt }

pub returns-in-Ends : goal.returns-in-Ends
returns-in-Ends c =
    let x = c.before.before.before.before.before.before.before.before.before in
    let s = start x in
    let w = c.in-Ends in
    let last = w.last in
    ends_decided s.args.geometry.parameters s.args.geometry.growth (file s) s.args.star.number s.args.star.word s.args.star.owner last (answer x last w.is)
    x.plan_entry.new.pool x.plan_entry.new.planned s.requires.enters.ready.sized (high x last w.is)
    (longer x) (λ word owner l e. x.plan_entry.ensures.applies word owner l (w.is ∙ e))
    s.args.star.home c.named_from-page.result (home-is s) c.named_from-page.ensures
