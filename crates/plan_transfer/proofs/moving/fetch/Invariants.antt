use mathlib.Core.List.{map}
use lib.ListN.{drop}
use Rattle.buffers.proofs.Copies.{Copied}
use Rattle.plan_transfer.specs.Sources.{named_item}
use Rattle.plan_transfer.proofs.moving.fetch.Given as goal

abbrev pub invariant-loop-i : goal.invariant-loop-i
invariant-loop-i l = record {
  numbers : Copied l.initial.pool l.at (map (named_item l.numbers l.newnumber) (drop l.at l.initial.pool)) l.pool l.i;
  words : Copied l.initial.waiting l.at (map (named_item l.words l.newword) (drop l.at l.initial.pool)) l.waiting l.i;
  owners : Copied l.initial.poolowners l.at (map (named_item l.owners l.newowner) (drop l.at l.initial.pool)) l.poolowners l.i;
}
