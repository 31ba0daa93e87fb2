use mathlib.Core.Path.{◌∙◌}
use native.Mathlib.Omega.{arith}
use Rattle.hashing.proofs.Bounds.{limits}
use Rattle.placement.proofs.Prepared.{first-signers}
use Rattle.clean_test.proofs.Counters.{counted_none, rising-raisable}
use Rattle.clean_test.proofs.counts.first_raisable.Lts as lts
use Rattle.clean_test.proofs.counts.first_raisable.Tie as tie
use Rattle.clean_test.proofs.counts.first_raisable.Reads as reads
use Rattle.clean_test.proofs.counts.first_raisable.Goals as goal
use Rattle.clean_test.proofs.counts.first_raisable.Goals.{Start}

abbrev After-first_multipliers-table : Type 0
After-first_multipliers-table = lts.After-first_multipliers tie.the-claims reads.Pre reads.Post tie.handed_clauses

abbrev start : After-first_multipliers-table → Start
start c = c.before.before.before.before

pub first_multipliers-table-requires : goal.first_multipliers-table-requires
first_multipliers-table-requires c = (limits _ c.requires.parameters_value).multiplier_valid

pub count_pages-near-requires : goal.count_pages-near-requires
count_pages-near-requires c =
    let k = c.before.before.before in
    let s = start k in
    record {
      signers = first-signers k.first_multipliers-table.ensures s.requires.parameters_value;
      homed = s.requires.homed;
      from_le_start = (omega arith, s.requires.homed.low);
      passers_counted = counted_none _ _ _ _;
    }

pub returns-then-near-stop : goal.returns-then-near-stop
returns-then-near-stop c =
    let k = c.before.before.before.before.before in
    let s = start k.before.before.before in
    let homed = s.requires.homed in
    let done = c.if-near-stop.true in
    c.first_rising.ensures
    ∙ rising-raisable s.args.geometry _ _ _ _ _ homed.low (omega (arith, homed.high, (limits _ s.requires.parameters_value).pages_most)) (rw done at k.count_pages-near.ensures.passers_counted_2)

pub first_raisable_beyond-requires : goal.first_raisable_beyond-requires
first_raisable_beyond-requires c =
    let k = c.before.before.before in
    let s = start k.before.before.before in
    record {
      parameters_value = s.requires.parameters_value;
      homed = s.requires.homed;
      from_le_start = k.count_pages-near.ensures.lower_bound;
      passers_counted = k.count_pages-near.ensures.passers_counted_2;
    }
