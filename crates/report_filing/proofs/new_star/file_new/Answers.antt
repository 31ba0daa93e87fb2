-- `report_filing::new_star::file_new` meets its contract.
use mathlib.Core.Path.{◌≡◌, ap, ◌∙◌}
use mathlib.Core.Bool.{false, not}
use borrow.Author.Tests.{eq-eqb}
use Rattle.pages.specs.Position.{packed}
use Rattle.placement.specs.Hash.{lent}
use Rattle.entry_reach.specs.Entry.{new_star_lem}
use Rattle.call_enter.proofs.Outcomes.{entry-small}
use Rattle.reports.specs.Reports.{is_removal}
use Rattle.report_filing.proofs.Searched.{place_here, absent_here, position-valid, filed-entry}
use Rattle.report_filing.proofs.new_star.file_new.Goals as goal

pub pack-word-requires : goal.pack-word-requires
pack-word-requires c =
    let entering : is_removal c.args.report ≡ false = ap not (eq-eqb _ 0 c.requires.held_value.1) in
    rw c.position_of.ensures (position-valid c.requires.ready c.requires.sought entering)

pub enter_star-requires : goal.enter_star-requires
enter_star-requires c =
    let t = c.requires.sought in
    record {
      enters = record {
        ready = c.requires.ready;
        number = t.number;
        unheld = absent_here c.requires.ready t c.requires.held_value.0;
        homed = t.named.home_is;
        here = t.named.page_is;
      };
      pooled = c.requires.pooled;
      known = t.known;
      place_value = place_here c.requires.ready t;
    }

pub placed_from-requires : goal.placed_from-requires
placed_from-requires c =
    let homing = c.requires.ready.homing in
    rw c.enter_star.ensures.value
    (entry-small c.args.geometry.parameters c.args.geometry.growth (lent c.args.separators.now c.args.numbers.now c.args.words.now c.args.owners.now)
    homing.valid homing.growth (new_star_lem c.args.report.number c.pack-word.result c.args.report.owner))

pub returns : goal.returns
returns c pool fits =
    let entering : is_removal c.args.report ≡ false = ap not (eq-eqb _ 0 c.requires.held_value.1) in
    let done = c.enter_star.ensures in
    filed-entry c.requires.ready c.requires.sought pool fits c.requires.held_value.0 entering
    c.pack-word.result (c.pack-word.ensures ∙ ap packed c.position_of.ensures) _ _ _ c.placed_from.ensures done.value done.owners_value
