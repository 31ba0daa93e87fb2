-- `soundness::testing::page_sound` meets its contract.
-- Assumes nothing.
use mathlib.Core.Path.{refl}
use mathlib.Core.Bool.{false≢true}
use Prim.Native.Nat.{◌<◌}
use native.Mathlib.Omega.{arith}
use borrow.Author.Tests.{lt-leb}
use Rattle.hashing.specs.Geometry.{multiplier_of}
use Rattle.hashing.proofs.Bounds.{limits}
use Rattle.placement.proofs.Prepared.{first-long, first-signers}
use Rattle.soundness.specs.Survey.{sound_in, Found, Testable}
use Rattle.soundness.proofs.Items.{found-led}
use Rattle.soundness.proofs.testing.page_sound.Lts as lts
use Rattle.soundness.proofs.testing.page_sound.Tie as tie
use Rattle.soundness.proofs.testing.page_sound.Reads as reads
use Rattle.soundness.proofs.testing.page_sound.Goals as goal
use Rattle.soundness.proofs.testing.page_sound.Goals.{Start}

abbrev After-of_page : Type 0
After-of_page = lts.After-of_page tie.the-claims reads.Pre reads.Post tie.handed_clauses

pub returns-then-top_of-separators : goal.returns-then-top_of-separators
unfolding sound_in
returns-then-top_of-separators c =
    record {
      sound = rw (lt-leb _ _ (rw c.top_of.ensures at c.if-top_of-separators.true));
      long = c.requires.homes_len;
      homed = λ e. absurd (false≢true e);
    }

pub occupied_places-occupied-requires : goal.occupied_places-occupied-requires
occupied_places-occupied-requires c = (limits _ c.requires.homing.valid).places_most

pub of_page-requires : goal.of_page-requires
of_page-requires c =
    let s = c.before.before.before.before.before.before.before.before.before in
    let ready = s.requires.homing in
    record {
      powers_value = ready.table;
      parameters_value = ready.valid;
      growth_value = ready.growth;
      places_bound = omega (arith, c.occupied_places-occupied.ensures.0, (limits s.args.geometry.parameters ready.valid).places_most);
      numbers_len = (s.requires.numbers_len.0, refl);
    }

abbrev start : After-of_page → Start
start c = c.before.before.before.before.before.before.before.before.before

low-page : (c : After-of_page) → (start c).args.page < 1024
low-page c = omega (arith, (start c).requires.page_lt_pages, (limits _ (start c).requires.homing.valid).pages_most)

-- the homes before the first empty place are found
homed : (c : After-of_page) → Found (start c).args.geometry (start c).args.numbers.now c.of_page.new.pages
homed c =
    let s = start c in
    let led = c.occupied_places-occupied.ensures in
    let most = (limits s.args.geometry.parameters s.requires.homing.valid).places_most in
    found-led _ _ _ _ _ (omega (arith, led.0, most, s.requires.numbers_len.0)) led.1 c.of_page.ensures

pub count_far-requires : goal.count_far-requires
count_far-requires c = low-page c.before.before

testable : (c : After-of_page) →
    let a = (start c).args in
    Testable a.geometry a.separators.now a.page a.numbers.now a.words.now a.owners.now c.of_page.new.pages a.homes.now
testable c =
    let p = (start c).requires in
    record {
      separated = p.separators_len;
      inside = p.page_lt_pages;
      numbers = p.numbers_len.0;
      words = p.numbers_len.1.0;
      owners = p.numbers_len.1.1;
      homes = p.homes_len;
      topped = rw c.top_of.ensures at c.if-top_of-separators.false;
      homed = homed c;
    }

pub items_sound-requires : goal.items_sound-requires
items_sound-requires c =
    let found = c.before.before.before.before.before.before.before in
    let s = start found in
    let table = s.requires.homing.table in
    let near = c.count_far.ensures c.if-count_far-eq0.true in
    record {
      signers = first-signers table s.requires.homing.valid;
      testable = testable found;
      signable_on = λ i h star. omega (arith, first-long (multiplier_of s.args.geometry.parameters) table, near i h star);
    }

pub items_beyond-requires : goal.items_beyond-requires
items_beyond-requires c =
    let found = c.before.before.before.before.before.before in
    record {
      parameters_value = (start found).requires.homing.valid;
      testable = testable found;
    }
