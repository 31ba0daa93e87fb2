use mathlib.Core.Path.{◌≡◌}
use native.Mathlib.Omega.{arith}
use Rattle.placement.specs.File.{File}
use Rattle.placement.specs.Hash.{hash_of, lent}
use Rattle.reach.specs.Reach.{removal_end}
use Rattle.removal_reach.proofs.Removing.{end_is, star-inside, star-reached}
use Rattle.removal_reach.proofs.removal.decide_removal.Lts as lts
use Rattle.removal_reach.proofs.removal.decide_removal.Tie as tie
use Rattle.removal_reach.proofs.removal.decide_removal.Reads as reads
use Rattle.removal_reach.proofs.removal.decide_removal.Goals as goal
use Rattle.removal_reach.proofs.removal.decide_removal.Goals.{Start}

abbrev After-stretch_end-last : Type 0
After-stretch_end-last = lts.After-stretch_end tie.the-claims reads.Pre reads.Post tie.handed_clauses

abbrev file : Start → File
file s = lent s.args.separators.now s.args.numbers.now s.args.words.now s.args.owners.now

abbrev start : After-stretch_end-last → Start
start c = c.before.before.before.before.before.before.before.before.before.before.before

-- the last page of the reach
ended : (c : After-stretch_end-last)
    → c.stretch_end-last.result ≡ removal_end (hash_of (start c).args.geometry.parameters (start c).args.geometry.growth) (start c).args.geometry.parameters.pages (file (start c)) (start c).args.star.home
ended c = let s = start c in end_is _ s.args.geometry.growth (file s) s.args.star.number s.requires.removes.ready.sized _ _ _ c.top_of.ensures c.stretch_end-last.ensures

pub stretch_end-last-requires : goal.stretch_end-last-requires
stretch_end-last-requires c = let s = c.before.before.before.before.before.before.before.before.before.before.before in omega (arith, star-inside s.requires.removes, s.requires.removes.ready.sized.of_separators)

pub overflow_sub-last : goal.overflow_sub-last
overflow_sub-last c = let s = start c.before in omega (arith, (star-reached s.requires.removes _ (ended c.before)).order)

pub decide_whole-requires : goal.decide_whole-requires
decide_whole-requires c =
    let d = c.before.before.before.before.before in
    let pre = (start d).requires in
    record {
      removes = pre.removes;
      pool_len = pre.pool_len;
      pages_in_bounds = pre.pages_in_bounds;
      last_value = ended d;
      known = pre.known;
    }

pub returns-then-last-from-lt8 : goal.returns-then-last-from-lt8
returns-then-last-from-lt8 c = c.decide_whole.ensures

pub decide_long-requires : goal.decide_long-requires
decide_long-requires c =
    let d = c.before.before.before.before.before in
    let pre = (start d).requires in
    record {
      removes = pre.removes;
      pool_len = pre.pool_len;
      pages_in_bounds = pre.pages_in_bounds;
      last_value = ended d;
      known = pre.known;
    }

pub returns : goal.returns
returns c = c.decide_long.ensures
