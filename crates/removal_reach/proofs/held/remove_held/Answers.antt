use mathlib.Core.Path.{◌≡◌, sym, ap, ◌∙◌}
use mathlib.Core.Bool.{true}
use mathlib.Core.List.{List}
use Prim.Native.Nat.{ℕ}
use native.Mathlib.Omega.{arith}
use lib.ListN.{get_or}
use Rattle.generator.specs.Generator.{top_of_lem}
use Rattle.hashing.proofs.Bounds.{limits}
use Rattle.placement.specs.File.{File}
use Rattle.placement.specs.Hash.{lent}
use Rattle.calls.specs.Shape.{stopped_file}
use Rattle.decision.specs.declared.chosen.Decision.TheVariants.{Take}
use Rattle.removal_reach.specs.Removal.{removal_start, DecidesRemoval}
use Rattle.removal_reach.proofs.Removing.{star-home, star-inside}
use Rattle.removal_reach.proofs.OnePage.{taken-decided}
use Rattle.removal_reach.proofs.held.remove_held.Lts as lts
use Rattle.removal_reach.proofs.held.remove_held.Tie as tie
use Rattle.removal_reach.proofs.held.remove_held.Reads as reads
use Rattle.removal_reach.proofs.held.remove_held.Goals as goal
use Rattle.removal_reach.proofs.held.remove_held.Goals.{After-carry_out, After-carry_out-2, Start}

abbrev Then-separators-first : Type 0
Then-separators-first = lts.Then1 tie.the-claims reads.Pre reads.Post tie.handed_clauses

abbrev file : Start → File
file s = lent s.args.separators.now s.args.numbers.now s.args.words.now s.args.owners.now

-- the home page has the separator 2^k − 1
abbrev begun : Then-separators-first → Start
begun c = c.before.before.before.before.before.before.before.before.before.before.before.before

stored : (c : Then-separators-first)
    → get_or (begun c).args.separators.now (removal_start (begun c).args.geometry.parameters (begun c).args.geometry.growth (begun c).args.star.number) 0 ≡ top_of_lem (begun c).args.geometry.parameters.bits
stored c =
    let s = begun c in
    ap (λ (q : ℕ). get_or s.args.separators.now q 0) (sym (star-home s.requires.removes)) ∙ c.if-separators-first.true ∙ c.top_of.ensures

decided : (c : Then-separators-first) (pool planned : List ℕ)
    → DecidesRemoval (begun c).args.geometry.parameters (begun c).args.geometry.growth (file (begun c)) (begun c).args.star.number (begun c).args.star.page pool planned (Take (begun c).args.star.page (begun c).args.star.place)
decided c pool planned =
    let s = begun c in
    let e = s.requires.removes in
    taken-decided s.args.geometry.parameters s.args.geometry.growth (file s) s.args.star.number e.ready.homing.valid e.ready.homing.growth e.ready.sized e.number e.held (stored c)
    s.args.star.page s.args.star.place e.here e.there pool planned

pub bounds-separators-first : goal.bounds-separators-first
bounds-separators-first c = let s = c.before.before.before.before.before.before.before.before.before.before.before in omega (arith, star-inside s.requires.removes, s.requires.removes.ready.sized.of_separators)

pub carry_out-requires : goal.carry_out-requires
carry_out-requires c =
    let d = c.before.before.before.before.before.before.before.before.before in
    let s = begun d in
    let e = s.requires.removes.ready in
    record {
      parameters_value = e.homing.valid;
      sized = e.sized;
      pooled = s.requires.pooled;
      feasible = (decided d s.args.pool.now s.args.separators.now).feasible;
    }

pub returns-then-separators-first : goal.returns-then-separators-first
returns-then-separators-first c =
    let d = c.before.before.before.before.before.before.before.before.before.before.before.before.before.before.before.before.before.before.before.before.before.before.before.before.before in
    let s = begun d in
    let done = c.carry_out.ensures in
    let chosen = decided d s.args.pool.now s.args.separators.now in
    record {
      value = chosen.answers;
      owners_value = done ∙ ap (λ (l : File). stopped_file true s.args.geometry.parameters (file s) l s.args.limit) chosen.files;
    }

pub decide_removal-decision-requires : goal.decide_removal-decision-requires
decide_removal-decision-requires c =
    let s = c.before.before.before.before.before.before.before.before.before.before.before.before.before.before.before.before in
    let pools = s.requires.pooled in
    record {
      removes = s.requires.removes;
      pool_len = (pools.of_numbers, pools.of_words_lem);
      pages_in_bounds = (limits _ s.requires.removes.ready.homing.valid).pages_most;
      known = s.requires.known;
    }

pub carry_out-requires-2 : goal.carry_out-requires-2
carry_out-requires-2 c =
    let s = c.before.before.before.before.before.before.before.before.before.before.before.before.before.before.before.before.before.before.before.before.before.before.before.before.before.before.before.before.before in
    let e = s.requires.removes.ready in
    let pools = s.requires.pooled in
    let planned = c.decide_removal-decision in record {
      parameters_value = e.homing.valid;
      sized = e.sized;
      pooled = record { of_numbers = planned.auto.pool ∙ pools.of_numbers; of_words_lem = planned.auto.waiting ∙ pools.of_words_lem; of_owners = pools.of_owners };
      feasible = planned.ensures.feasible;
    }

pub returns : goal.returns
returns c =
    let s = c.before.before.before.before.before.before.before.before.before.before.before.before.before.before.before.before.before.before.before.before.before.before.before.before.before.before.before.before.before.before.before.before.before.before.before.before.before.before.before.before.before.before.before.before.before.before in
    let done = c.carry_out-2.ensures in
    let chosen = c.decide_removal-decision.ensures in
    record {
      value = c.outcome_of.ensures ∙ chosen.answers;
      owners_value = done ∙ ap (λ (l : File). stopped_file true s.args.geometry.parameters (file s) l s.args.limit) chosen.files;
    }
