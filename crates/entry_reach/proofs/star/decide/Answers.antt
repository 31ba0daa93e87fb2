use mathlib.Core.Path.{◌≡◌, refl, sym, ap}
use Prim.Native.Nat.{◌<◌}
use native.Mathlib.Omega.{arith}
use Rattle.placement.specs.File.{File}
use Rattle.placement.specs.Hash.{lent}
use Rattle.entry_reach.specs.declared.blocks.Extent.{Extent}
use Rattle.entry_reach.specs.Entry.{block_end}
use Rattle.entry_reach.proofs.Surveyed.{end-found, last-low, extent-from}
use Rattle.entry_reach.proofs.Runs.{home-is, home-inside}
use Rattle.entry_reach.proofs.star.decide.Lts as lts
use Rattle.entry_reach.proofs.star.decide.Tie as tie
use Rattle.entry_reach.proofs.star.decide.Reads as reads
use Rattle.entry_reach.proofs.star.decide.Goals as goal
use Rattle.entry_reach.proofs.star.decide.Goals.{Start}

abbrev After-block_from-first : Type 0
After-block_from-first = lts.After-block_from tie.the-claims reads.Pre reads.Post tie.handed_clauses

abbrev file : Start → File
file s = lent s.args.separators.now s.args.numbers.now s.args.words.now s.args.owners.now

inside : (s : Start) → s.args.star.home < s.args.geometry.parameters.pages
inside s =
    let e = s.requires.enters in
    omega (arith, home-is s.args.geometry s.args.star.number s.args.star.home e.homed, home-inside s.args.geometry.parameters s.args.geometry.growth (file s) s.args.star.number e.ready.sized e.unheld)

abbrev start : After-block_from-first → Start
start c = c.before.before.before.before.before.before.before.before.before.before

ended : (c : After-block_from-first) → c.block_from-first.result.last ≡ block_end (start c).args.geometry.parameters (start c).args.geometry.growth (file (start c)) (start c).args.star.home
ended c =
    let s = start c in
    end-found s.args.geometry.parameters s.args.geometry.growth (file s) s.requires.enters.ready.homing.valid s.requires.enters.ready.sized s.args.star.home (inside s) _ c.block_from-first.result.last refl
    (ap (λ (e : Extent). e.last) c.block_from-first.ensures)

pub block_from-first-requires : goal.block_from-first-requires
block_from-first-requires c = let s = c.before.before.before.before.before.before.before.before.before.before in record {
  parameters_value = s.requires.enters.ready.homing.valid;
  first_in_bounds = omega (arith, inside s, s.requires.enters.ready.sized.of_separators);
}

pub overflow_sub-last : goal.overflow_sub-last
overflow_sub-last c =
    let s = start c.before in
    last-low s.args.geometry.parameters s.args.geometry.growth (file s) s.requires.enters.ready.homing.valid s.requires.enters.ready.sized s.args.star.home (inside s) c.block_from-first.result.last (ended c.before)

pub decide_run-requires : goal.decide_run-requires
decide_run-requires c =
    let s = c.before.before.before.before.before.before.before.before.before.before.before.before.before.before.before in
    record {
      enters = s.requires.enters;
      pool_len = s.requires.pool_len;
      pages_in_bounds = s.requires.pages_in_bounds;
      known = s.requires.known;
      place_value = s.requires.place_value;
      last_value = ended c.before.before.before.before.before;
    }

pub decide_stretch-requires : goal.decide_stretch-requires
decide_stretch-requires c =
    let s = c.before.before.before.before.before.before.before.before.before.before.before.before.before.before.before in
    let k = c.before.before.before.before.before in
    let p = s.args.geometry.parameters in
    let x = extent-from p s.args.geometry.growth (file s) s.args.pool.now s.requires.enters.ready.sized s.args.star.home s.args.star.page (inside s) s.requires.known k.block_from-first.result k.block_from-first.ensures in
    record {
      enters = s.requires.enters;
      pool_len = s.requires.pool_len;
      pages_in_bounds = s.requires.pages_in_bounds;
      home_value = (sym (ap (λ (e : Extent). e.first) k.block_from-first.ensures), x);
    }
