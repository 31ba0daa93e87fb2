-- `reach::surveying::survey_around` meets its contract.
use Prim.Native.Nat.{◌+◌, ◌-◌, ◌*◌, ◌≤◌, ◌<◌}
use native.Mathlib.Omega.{arith}
use lib.ListN.{length}
use borrow.Author.Rules.{rules}
use Rattle.placement.specs.File.{File}
use Rattle.placement.specs.Hash.{lent}
use Rattle.reach.proofs.Surveyed.{stretch-fits, lowest_first_lem, lowest_wider, lowest_around, homes-around}
use Rattle.reach.proofs.surveying.survey_around.Lts as lts
use Rattle.reach.proofs.surveying.survey_around.Tie as tie
use Rattle.reach.proofs.surveying.survey_around.Reads as reads
use Rattle.reach.proofs.surveying.survey_around.Goals as goal
use Rattle.reach.proofs.surveying.survey_around.Goals.{Start}

abbrev After-survey-unsound : Type 0
After-survey-unsound = lts.After-survey tie.the-claims reads.Pre reads.Post tie.handed_clauses

abbrev file : Start → File
file s = lent s.args.separators.now s.args.numbers.now s.args.words.now s.args.owners.now

-- the pages before the known one, and those behind it, stand in the list of homes
front : (s : Start) → s.args.from * s.args.geometry.parameters.places + (s.args.known - s.args.from) * s.args.geometry.parameters.places ≤ length s.args.homes.now
front s =
    let p = s.args.geometry.parameters in
    omega (arith, stretch-fits p.places p.pages s.args.from s.args.known s.requires.from_le_known.0 (omega (arith, s.requires.from_le_known.1, s.requires.stop_le_pages)), s.requires.homes_len)

back : (s : Start) → (s.args.known + 1) * s.args.geometry.parameters.places + (s.args.stop - (s.args.known + 1)) * s.args.geometry.parameters.places ≤ length s.args.homes.now
back s =
    let p = s.args.geometry.parameters in
    omega (arith, stretch-fits p.places p.pages (s.args.known + 1) s.args.stop (omega (arith, s.requires.from_le_known.1)) s.requires.stop_le_pages, s.requires.homes_len)

pub overflow_mul-from : goal.overflow_mul-from
overflow_mul-from c = search (rules, front c.before.before.before.before.before.before.before.before)

pub survey-unsound-requires : goal.survey-unsound-requires
survey-unsound-requires c =
    let s = c.before.before.before.before.before.before.before.before in
    record {
      ready = s.requires.ready;
      from_le_stop = (s.requires.from_le_known.0, omega (arith, s.requires.from_le_known.1, s.requires.stop_le_pages));
      places_in_bounds = front s;
    }

abbrev start : After-survey-unsound → Start
start c = c.before.before.before.before.before.before.before.before

pub returns-then-unsound-known : goal.returns-then-unsound-known
returns-then-unsound-known c =
    let d = c.before.before.before.before in
    let s = start d in
    let below = c.if-unsound-known.true in record {
      value = lowest_first_lem _ _ (file s) _ _ _ (lowest_wider _ _ (file s) _ _ _ d.survey-unsound.ensures.lowest s.args.stop below (omega (arith, s.requires.from_le_known.1))) _ (omega (arith, s.requires.from_le_known));
      homes_after = λ e. absurd (omega (arith, e, below, s.requires.from_le_known.1));
    }

pub overflow_mul-next : goal.overflow_mul-next
overflow_mul-next c = search (rules, back (start c.before.before.before.before.before))

pub survey-requires : goal.survey-requires
survey-requires c =
    let d = c.before.before.before.before.before in
    let s = start d in
    record {
      ready = s.requires.ready;
      from_le_stop = (omega (arith, s.requires.from_le_known.1), s.requires.stop_le_pages);
      places_in_bounds = omega (arith, back s, d.survey-unsound.auto.homes);
    }

pub returns : goal.returns
returns c =
    let d = c.before.before.before.before.before.before.before.before in
    let s = start d in
    let e = c.survey in
    let reached = c.if-unsound-known.false in
    let known = s.requires.known in
    let below : s.args.known < s.args.geometry.parameters.pages = omega (arith, s.requires.from_le_known.1, s.requires.stop_le_pages) in record {
      value = lowest_first_lem _ _ (file s) _ _ _ (lowest_around _ _ (file s) _ _ _ _ _ d.survey-unsound.ensures.lowest reached (known.sound below) e.ensures.lowest) _ (omega (arith, s.requires.from_le_known));
      homes_after = λ _.
          homes-around s.args.geometry (file s) s.args.from s.args.known s.args.stop _ s.args.homes.now _ _ s.requires.ready.sized s.requires.homes_len s.requires.from_le_known.0 s.requires.from_le_known.1 s.requires.stop_le_pages
          d.survey-unsound.ensures.lowest reached known d.survey-unsound.auto.homes d.survey-unsound.ensures.homes_after e.ensures.homes_after;
    }
