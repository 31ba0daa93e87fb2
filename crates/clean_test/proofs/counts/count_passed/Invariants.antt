-- The pages from home and `from` up to the one before `next` are counted.
use Prim.Native.Nat.{◌≤◌}
use Rattle.clean_test.specs.Raising.{hash_under}
use Rattle.clean_test.proofs.Counters.{ProbesCounted}
use Rattle.clean_test.proofs.counts.count_passed.Given as goal

abbrev pub invariant-loop-probed : goal.invariant-loop-probed
invariant-loop-probed l =
    (l.from ≤ l.probed) × ProbesCounted (hash_under l.geometry) l.separators l.number l.from l.page l.probed l.initial.counts l.counts
