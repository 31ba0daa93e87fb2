-- `report_filing::held_star::file_held` meets its contract.
use mathlib.Core.Path.{◌≡◌, sym, ap, ◌∙◌}
use mathlib.Core.Bool.{false, not}
use Prim.Native.Nat.{◌*◌, ◌<◌}
use native.Mathlib.Omega.{arith}
use borrow.Author.Tests.{eq-eqb, ne_eqb}
use Rattle.hashing.proofs.Bounds.{limits}
use Rattle.pages.specs.Position.{packed}
use Rattle.calls.specs.Answers.{placed, refused_by}
use Rattle.calls.proofs.Refusals.{items-most}
use Rattle.reports.specs.Reports.{is_removal}
use Rattle.report_filing.proofs.Searched.{place_here, held-here, position-valid, removal_fits, refused-stranger, filed-removal, filed-change}
use Rattle.report_filing.proofs.held_star.file_held.Goals as goal

pub returns-then-not-may_alter : goal.returns-then-not-may_alter
unfolding placed refused_by
returns-then-not-may_alter c pool fits = refused-stranger c.requires.ready c.requires.sought pool fits c.requires.held_value (sym c.may_alter.ensures ∙ c.if-not-may_alter.true)

pub remove_held-requires : goal.remove_held-requires
remove_held-requires c =
    let t = c.requires.sought in
    record {
      removes = record {
        ready = c.requires.ready;
        number = t.number;
        held = held-here c.requires.ready t c.requires.held_value;
        homed = t.named.home_is;
        here = t.named.page_is;
        there = place_here c.requires.ready t;
      };
      pooled = c.requires.pooled;
      known = t.known;
    }

pub placed_from-requires : goal.placed_from-requires
placed_from-requires c = rw c.remove_held.ensures.value (removal_fits c.requires.ready c.requires.sought)

pub returns-then-report-ne0 : goal.returns-then-report-ne0
returns-then-report-ne0 c pool fits =
    let done = c.remove_held.ensures in
    filed-removal c.requires.ready c.requires.sought pool fits c.requires.held_value (ap not (ne_eqb _ 0 c.if-report-ne0.true))
    (sym c.may_alter.ensures ∙ c.if-not-may_alter.false) _ _ _ c.placed_from.ensures done.value done.owners_value

-- a change
pub pack-requires : goal.pack-requires
pack-requires c =
    let changing : is_removal c.args.report ≡ false = ap not (eq-eqb _ 0 c.if-report-ne0.false) in
    rw c.position_of.ensures (position-valid c.requires.ready c.requires.sought changing)

pub offset_bounds-words-item : goal.offset_bounds-words-item
offset_bounds-words-item c = omega (arith, c.requires.sought.named.item_below c.requires.held_value, items-most _ c.requires.ready.homing.valid)

pub bounds-words-item : goal.bounds-words-item
bounds-words-item c = omega (arith, c.requires.sought.named.item_below c.requires.held_value, c.requires.ready.sized.of_words_lem)

pub overflow_cast-page : goal.overflow_cast-page
overflow_cast-page c = omega (arith, c.requires.sought.named.page_most, (limits _ c.requires.ready.homing.valid).pages_most)

pub returns : goal.returns
unfolding placed
returns c pool fits =
    let changing : is_removal c.args.report ≡ false = ap not (eq-eqb _ 0 c.if-report-ne0.false) in
    filed-change c.requires.ready c.requires.sought pool fits c.requires.held_value changing (sym c.may_alter.ensures ∙ c.if-not-may_alter.false)
    c.pack.result (c.pack.ensures ∙ ap packed c.position_of.ensures)
