-- `starfile::growing::shrink` meets its contract.
use mathlib.Core.Path.{ap}
use Rattle.hashing.proofs.Bounds.{passed, failed}
use Rattle.calls.specs.Records.{shrink_under}
use Rattle.call_guard.proofs.Turned.{record_stays, moved_by}
use mathlib.Core.Bool.{not}
use Rattle.starfile.proofs.growing.shrink.Goals as goal

pub turn_away-answer-requires : goal.turn_away-answer-requires
turn_away-answer-requires c = failed _ _ c.at_rest.ensures (ap not c.if-not-at_rest.true)

pub returns-then-not-at_rest : goal.returns-then-not-at_rest
unfolding shrink_under
returns-then-not-at_rest c = record {
  leaves = c.turn_away-answer.ensures _;
  growth_after = record_stays _ _ _ _ _ _ (failed _ _ c.at_rest.ensures (ap not c.if-not-at_rest.true));
}

pub returns : goal.returns
unfolding shrink_under
returns c =
    let moved = moved_by _ _ _ _ _ _ (passed _ _ c.at_rest.ensures (ap not c.if-not-at_rest.false)) c.at_rest_after.ensures c.shrink.ensures.leaves c.shrink.ensures.growth_value in
    record { leaves = moved.0; growth_after = moved.1 }
