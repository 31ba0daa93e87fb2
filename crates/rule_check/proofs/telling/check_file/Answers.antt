use mathlib.Core.Path.{◌≡◌, sym, ap, ◌∙◌, refl}
use Prim.Native.Nat.{ℕ, ◌≤◌, ◌<◌}
use native.Mathlib.Omega.{arith}
use native.Mathlib.Nat.{le_refl, add-zero}
use Rattle.pages.specs.Page.{part}
use Rattle.placement.specs.File.{File}
use Rattle.placement.specs.Hash.{lent}
use Rattle.placement.specs.Shape.{homes_of}
use Rattle.placement.proofs.Prepared.{ready}
use Rattle.reach.specs.Reach.{first_unsound_lem}
use Rattle.reach.specs.Shape.{homes_kept}
use Rattle.reach.specs.Known.{Known}
use Rattle.reach.proofs.Surveyed.{known-none, surveyed-pages}
use Rattle.calls.proofs.Ruled.{all_sound}
use Rattle.rule_check.proofs.Planned.{homes-whole}
use Rattle.rule_check.proofs.Unraisable.{none-raisable}
use Rattle.rule_check.proofs.Verdicts.{surveyed, surveyed-sound, told-unsound, told-differs, told-clean}
use borrow.Author.Rules.{rules}
use Rattle.rule_check.proofs.telling.check_file.Lts as lts
use Rattle.rule_check.proofs.telling.check_file.Tie as tie
use Rattle.rule_check.proofs.telling.check_file.Reads as reads
use Rattle.rule_check.proofs.telling.check_file.Goals as goal
use Rattle.rule_check.proofs.telling.check_file.Goals.{Start}

abbrev Else-unsound-pages : Type 0
Else-unsound-pages = lts.Else1 tie.the-claims reads.Pre reads.Post tie.handed_clauses

abbrev After-compare_planned-spot : Type 0
After-compare_planned-spot = lts.After-compare_planned tie.the-claims reads.Pre reads.Post tie.handed_clauses

abbrev file : Start → File
file s = lent s.args.separators.now s.args.numbers.now s.args.words.now s.args.owners.now

pub survey_pages-unsound-requires : goal.survey_pages-unsound-requires
survey_pages-unsound-requires c =
    let pre = c.requires in
    record {
      ready = pre.ready;
      homes_len = pre.pooled.of_numbers;
      from_le_stop = omega arith;
      stop_le_pages = le_refl _;
      known = known-none _ _ _ _ _ (le_refl _);
    }

pub returns-then-unsound-pages : goal.returns-then-unsound-pages
returns-then-unsound-pages c =
    let s = c.before.before.before.before.before.before.before.before.before.before.before.before.before.before in
    told-unsound _ _ _ _ (surveyed _ _ (file s) _ c.survey_pages-unsound.ensures.value) c.if-unsound-pages.true

-- all pages were surveyed, and none is unsound
abbrev start : Else-unsound-pages → Start
start c = c.before.before.before.before.before.before.before.before.before.before.before.before.before

all_of : (c : Else-unsound-pages) → c.survey_pages-unsound.result ≡ (start c).args.geometry.parameters.pages
all_of c = surveyed-sound _ _ (file (start c)) _ c.survey_pages-unsound.ensures.value c.if-unsound-pages.false

none-unsound : (c : Else-unsound-pages)
    → first_unsound_lem (start c).args.geometry.parameters (start c).args.geometry.growth (file (start c)) 0 (start c).args.geometry.parameters.pages ≡ (start c).args.geometry.parameters.pages
none-unsound c = surveyed _ _ (file (start c)) _ c.survey_pages-unsound.ensures.value ∙ all_of c

-- the pool holds the homes of all items
homed : (c : Else-unsound-pages) →
    let a = (start c).args in
    homes_kept a.geometry 0 a.geometry.parameters.pages a.numbers.now a.pool.now ≡ homes_of a.geometry.parameters a.geometry.growth a.numbers.now
homed c =
    let a = (start c).args in
    homes-whole a.geometry.parameters a.geometry.growth a.pool.now a.numbers.now a.geometry.parameters.pages (start c).requires.pooled.of_numbers (start c).requires.ready.sized.of_numbers

page-known : (c : Else-unsound-pages) (q : ℕ) → 0 ≤ q → q < (start c).args.geometry.parameters.pages →
    let a = (start c).args in
    Known a.geometry.parameters a.geometry.growth (file (start c)) (homes_kept a.geometry 0 a.geometry.parameters.pages a.numbers.now a.pool.now) q
page-known c =
    let s = start c in
    surveyed-pages s.args.geometry.parameters s.args.geometry.growth (file s) s.args.pool.now 0 s.args.geometry.parameters.pages s.requires.ready.sized s.requires.pooled.of_numbers (le_refl _)
    (λ q a h. all_sound _ _ (file s) (none-unsound c) q h)

pub first_raisable-requires : goal.first_raisable-requires
first_raisable-requires c =
    let e = c.before in
    let pre = (start e).requires in record {
      parameters_value = pre.ready.homing.valid;
      homed = record {
        separators = pre.ready.sized.of_separators;
        numbers = pre.ready.sized.of_numbers;
        homes = e.survey_pages-unsound.auto.homes ∙ pre.pooled.of_numbers;
        low = omega arith;
        high = le_refl _;
        kept = λ q a h. ap (part (start e).args.geometry.parameters.places q) (e.survey_pages-unsound.ensures.homes_after (all_of e)) ∙ (page-known e q a h).kept h;
      };
    }

pub returns-then-pages-first_raisable : goal.returns-then-pages-first_raisable
returns-then-pages-first_raisable c =
    let e = c.before.before.before in
    let s = start e in
    told-clean _ _ _ s.args.geometry.parameters.pages 0 (none-unsound e)
    (add-zero _ ∙ sym (none-raisable _ _ (file s) s.requires.ready.sized (none-unsound e) _ c.first_raisable.ensures c.if-pages-first_raisable.true))
    (le_refl _)

pub compare_planned-spot-requires : goal.compare_planned-spot-requires
compare_planned-spot-requires c =
    let e = c.before.before.before.before.before.before in
    let pre = (start e).requires in record {
      ready = ready refl pre.ready.homing.valid pre.ready.homing.growth pre.ready.sized;
      pages_value = none-unsound e;
      pool_value = e.survey_pages-unsound.ensures.homes_after (all_of e) ∙ homed e;
      waiting_len = pre.pooled.of_words_lem;
      poolowners_len = pre.pooled.of_owners;
    }

-- the pages were sound before the comparison
abbrev surveyed-before : After-compare_planned-spot → Else-unsound-pages
surveyed-before c = c.before.before.before.before.before.before

pub returns-then-spot-pages : goal.returns-then-spot-pages
returns-then-spot-pages c =
    let spot = c.before.before.before.before.before.before.before.before.before in
    told-differs _ _ _ _ _ (none-unsound (surveyed-before spot)) spot.compare_planned-spot.ensures.place_value c.if-spot-pages.true spot.compare_planned-spot.ensures.place_le_places

pub returns : goal.returns
returns c =
    let spot = c.before.before.before.before.before.before.before.before.before in
    told-clean _ _ _ _ _ (none-unsound (surveyed-before spot)) spot.compare_planned-spot.ensures.place_value c.if-spot-pages.false
