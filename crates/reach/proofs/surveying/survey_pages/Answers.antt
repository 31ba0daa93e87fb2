-- `reach::surveying::survey_pages` meets its contract.
use Prim.Native.Nat.{◌+◌, ◌-◌, ◌*◌, ◌≤◌}
use native.Mathlib.Omega.{arith}
use lib.ListN.{length}
use borrow.Author.Rules.{rules}
use Rattle.placement.specs.File.{File}
use Rattle.placement.specs.Hash.{lent}
use Rattle.reach.proofs.Surveyed.{stretch-fits, lowest_first_lem}
use Rattle.reach.proofs.surveying.survey_pages.Lts as lts
use Rattle.reach.proofs.surveying.survey_pages.Tie as tie
use Rattle.reach.proofs.surveying.survey_pages.Reads as reads
use Rattle.reach.proofs.surveying.survey_pages.Goals as goal
use Rattle.reach.proofs.surveying.survey_pages.Goals.{Start}

abbrev After-slice_known-2-1 : Type 0
After-slice_known-2-1 = lts.After-slice_known3 tie.the-claims reads.Pre reads.Post tie.handed_clauses

pub survey_around-requires : goal.survey_around-requires
survey_around-requires c =
    let s = c.before.before.before.before.before.before.before.before.before in
    let p = s.requires in
    record {
      ready = p.ready;
      homes_len = p.homes_len;
      from_le_known = (c.if-from-known.true, c.if-known-stop.true);
      stop_le_pages = p.stop_le_pages;
      known = p.known;
    }

abbrev file : Start → File
file s = lent s.args.separators.now s.args.numbers.now s.args.words.now s.args.owners.now

-- the pages stand in the list of homes
fits : (s : Start) → s.args.from * s.args.geometry.parameters.places + (s.args.stop - s.args.from) * s.args.geometry.parameters.places ≤ length s.args.homes.now
fits s =
    let p = s.args.geometry.parameters in
    omega (arith, stretch-fits p.places p.pages s.args.from s.args.stop s.requires.from_le_stop s.requires.stop_le_pages, s.requires.homes_len)

pub overflow_mul-from : goal.overflow_mul-from
overflow_mul-from c = search (rules, fits c.before.before.before.before.before.before.before.before.before)

pub survey-requires : goal.survey-requires
survey-requires c =
    let s = c.before.before.before.before.before.before.before.before.before in
    record {
      ready = s.requires.ready;
      from_le_stop = (s.requires.from_le_stop, s.requires.stop_le_pages);
      places_in_bounds = fits s;
    }

abbrev start : After-slice_known-2-1 → Start
start c = c.before.before.before.before.before.before.before.before.before.before.before

pub returns : goal.returns
returns c =
    let s = start c.before in
    let d = c.survey.ensures in
    record {
      value = lowest_first_lem _ _ (file s) _ _ _ d.lowest _ (omega (arith, s.requires.from_le_stop));
      homes_after = λ _. d.homes_after;
    }
