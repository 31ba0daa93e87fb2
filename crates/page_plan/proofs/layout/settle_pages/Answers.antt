-- The first ninety multipliers serve up to a page that needs more; from there on the whole table does. Assumes nothing.
use native.Mathlib.Omega.{arith}
use Rattle.hashing.proofs.Bounds.{limits}
use Rattle.placement.proofs.Prepared.{first-signers}
use Rattle.page_plan.specs.Plans.{Settling}
use Rattle.page_plan.proofs.Stretch.{settling-none}
use Rattle.page_plan.proofs.AllPages.{stretch-settled}
use lib.Seq.{slice}
use Rattle.page_plan.proofs.layout.settle_pages.Lts as lts
use Rattle.page_plan.proofs.layout.settle_pages.Tie as tie
use Rattle.page_plan.proofs.layout.settle_pages.Reads as reads
use Rattle.page_plan.proofs.layout.settle_pages.Goals as goal
use Rattle.page_plan.proofs.layout.settle_pages.Goals.{Start}

abbrev After-settle_run-near : Type 0
After-settle_run-near = lts.After-settle_run tie.the-claims reads.Pre reads.Post tie.handed_clauses

pub first_multipliers-table-requires : goal.first_multipliers-table-requires
first_multipliers-table-requires c = (limits _ c.requires.settleable.valid).multiplier_valid

pub settle_run-near-requires : goal.settle_run-near-requires
settle_run-near-requires c =
    let s = c.before.before.before.before.before.before.before.before.before.before in
    let a = s.args in record {
      signers = first-signers c.first_multipliers-table.ensures s.requires.settleable.valid;
      spare_bound = (
        s.requires.spare_bound,
        record {
          carried = a.carried;
          waiting = a.waiting.now;
          pool = a.pool.now;
          planned = a.planned.now;
          settleable = s.requires.settleable;
          settling = settling-none _ _ _ _ _ _ _ _;
        },
      );
    }

abbrev start : After-settle_run-near → Start
start d = d.before.before.before.before.before.before.before.before.before.before

-- the pages settled by the first ninety
near : (d : After-settle_run-near) →
    let a = (start d).args in
    let last = d.settle_run-near.new in
    Settling a.parameters a.lo a.count a.carried (slice a.carried a.end a.waiting.now) a.waiting.now a.pool.now a.planned.now
    last.pool last.waiting last.planned d.settle_run-near.result.from d.settle_run-near.result.pages
near d =
    let s = start d in
    d.settle_run-near.ensures.continues s.args.carried s.args.pool.now s.args.waiting.now s.args.planned.now s.requires.settleable (settling-none _ _ _ _ _ _ _ _)

pub returns-then-near-count : goal.returns-then-near-count
returns-then-near-count c =
    let d = c.before.before.before.before.before.before.before.before.before in
    let s = start d in
    stretch-settled _ _ _ _ _ _ _ _ _ s.requires.settleable _ _ _ _ _ (near d) s.args.spare (λ less. omega (arith, less, c.if-near-count.true))

pub run_beyond-far-requires : goal.run_beyond-far-requires
run_beyond-far-requires c =
    let d = c.before.before.before.before.before.before.before.before.before.before.before.before in
    let s = start d in
    let a = s.args in record {
      parameters_value = s.requires.settleable.valid;
      spare_bound = (
        s.requires.spare_bound,
        record {
          carried = a.carried;
          waiting = a.waiting.now;
          pool = a.pool.now;
          planned = a.planned.now;
          settleable = s.requires.settleable;
          settling = near d;
        },
      );
    }

pub returns : goal.returns
returns c =
    let e = c.before.before.before.before.before.before.before in
    let d = e.before.before.before.before.before.before.before.before.before.before.before.before in
    let s = start d in
    let far = e.run_beyond-far.ensures.continues s.args.carried s.args.pool.now s.args.waiting.now s.args.planned.now s.requires.settleable (near d) in
    stretch-settled _ _ _ _ _ _ _ _ _ s.requires.settleable _ _ _ _ _ far s.args.spare e.run_beyond-far.ensures.ended
