-- `growth_plan::growth::grow` meets its contract.
use mathlib.Core.Path.{◌≡◌, sym, ap, subst, ◌∙◌, refl}
use native.Mathlib.Nat.{le_refl}
use native.Mathlib.Omega.{arith}
use Rattle.placement.specs.File.{File}
use Rattle.placement.specs.Hash.{lent}
use Rattle.placement.specs.Shape.{homes_of}
use Rattle.placement.specs.Ready.{Ready, Pooled}
use Rattle.reach.specs.Reach.{first_unsound_lem}
use Rattle.reach.proofs.Surveyed.{known-none}
use Rattle.growth_plan.proofs.Growing.{still-done, growth_refused, surveyed-all, surveyed-sound}
use Rattle.growth_plan.proofs.growth.grow.Goals as goal

pub survey_pages-bad-requires : goal.survey_pages-bad-requires
survey_pages-bad-requires c =
    record {
      ready = c.requires.ready;
      homes_len = c.requires.pooled.of_numbers;
      from_le_stop = omega arith;
      stop_le_pages = omega arith;
      known = known-none _ _ _ _ _ (le_refl _);
    }

pub shape_of-separators-then-bad-pages : goal.shape_of-separators-then-bad-pages
shape_of-separators-then-bad-pages c = refl

pub shape_of-numbers-then-bad-pages : goal.shape_of-numbers-then-bad-pages
shape_of-numbers-then-bad-pages c = refl

pub shape_of-words-then-bad-pages : goal.shape_of-words-then-bad-pages
shape_of-words-then-bad-pages c = refl

pub shape_of-owners-then-bad-pages : goal.shape_of-owners-then-bad-pages
shape_of-owners-then-bad-pages c = refl

pub returns-then-bad-pages : goal.returns-then-bad-pages
returns-then-bad-pages c =
    record {
      value = (growth_refused _ _ _ c.requires.ready.homing.valid c.requires.ready.sized _ c.args.page _ c.survey_pages-bad.ensures.value c.if-bad-pages.true).0;
      owners_value = (growth_refused _ _ _ c.requires.ready.homing.valid c.requires.ready.sized _ c.args.page _ c.survey_pages-bad.ensures.value c.if-bad-pages.true).1;
    }

-- all pages are sound, and the pool holds the homes of their items
pub grow_in_place-requires : goal.grow_in_place-requires
grow_in_place-requires c =
    let pooled : Pooled c.args.geometry.parameters c.survey_pages-bad.new.homes c.args.waiting.now c.args.poolowners.now = let pool = c.requires.pooled in record { of_numbers = c.survey_pages-bad.auto.homes ∙ pool.of_numbers; of_words_lem = pool.of_words_lem; of_owners = pool.of_owners } in
    let sound : let p = c.args.geometry.parameters in first_unsound_lem p c.args.geometry.growth (lent c.args.separators.now c.args.numbers.now c.args.words.now c.args.owners.now) 0 p.pages ≡ p.pages = surveyed-sound _ _ (lent c.args.separators.now c.args.numbers.now c.args.words.now c.args.owners.now) c.requires.ready.homing.valid c.requires.ready.sized _ c.survey_pages-bad.ensures.value c.if-bad-pages.false in
    let homed : c.survey_pages-bad.new.homes ≡ homes_of c.args.geometry.parameters c.args.geometry.growth c.args.numbers.now = surveyed-all _ _ (lent c.args.separators.now c.args.numbers.now c.args.words.now c.args.owners.now) c.requires.ready.homing.valid c.requires.ready.sized _ c.survey_pages-bad.ensures.value c.if-bad-pages.false _ _ c.requires.pooled.of_numbers c.survey_pages-bad.ensures.homes_after in
    record {
      ready = c.requires.ready;
      pooled = pooled;
      movable = c.requires.movable;
      pages_value = sound;
      pool_value = homed;
    }

pub returns-then-grow_in_place : goal.returns-then-grow_in_place
returns-then-grow_in_place c =
    record {
      value = c.grow_in_place.ensures.accepts c.if-grow_in_place.true _;
      owners_value = c.grow_in_place.ensures.file c.if-grow_in_place.true;
    }

-- not grown in place: all is as it was
pub replace_all-requires : goal.replace_all-requires
replace_all-requires c =
    let pooled : Pooled c.args.geometry.parameters c.survey_pages-bad.new.homes c.args.waiting.now c.args.poolowners.now = let pool = c.requires.pooled in record { of_numbers = c.survey_pages-bad.auto.homes ∙ pool.of_numbers; of_words_lem = pool.of_words_lem; of_owners = pool.of_owners } in
    let sound : let p = c.args.geometry.parameters in first_unsound_lem p c.args.geometry.growth (lent c.args.separators.now c.args.numbers.now c.args.words.now c.args.owners.now) 0 p.pages ≡ p.pages = surveyed-sound _ _ (lent c.args.separators.now c.args.numbers.now c.args.words.now c.args.owners.now) c.requires.ready.homing.valid c.requires.ready.sized _ c.survey_pages-bad.ensures.value c.if-bad-pages.false in
    let homed : c.survey_pages-bad.new.homes ≡ homes_of c.args.geometry.parameters c.args.geometry.growth c.args.numbers.now = surveyed-all _ _ (lent c.args.separators.now c.args.numbers.now c.args.words.now c.args.owners.now) c.requires.ready.homing.valid c.requires.ready.sized _ c.survey_pages-bad.ensures.value c.if-bad-pages.false _ _ c.requires.pooled.of_numbers c.survey_pages-bad.ensures.homes_after in
    let p = c.args.geometry.parameters in
    let g = c.args.geometry.growth in
    let still = c.grow_in_place.ensures.kept c.if-grow_in_place.false in
    let lengths = c.grow_in_place.auto in record {
      ready = subst (λ (f : File). Ready c.args.geometry c.args.table.now f) (sym still) c.requires.ready;
      pooled = record { of_numbers = lengths.pool ∙ pooled.of_numbers; of_words_lem = lengths.waiting ∙ pooled.of_words_lem; of_owners = lengths.poolowners ∙ pooled.of_owners };
      movable = c.requires.movable;
      pages_value = subst (λ (f : File). first_unsound_lem p g f 0 p.pages ≡ p.pages) (sym still) sound;
      pool_value = c.grow_in_place.ensures.pool_kept c.if-grow_in_place.false ∙ homed ∙ ap (λ (f : File). homes_of p g f.numbers) (sym still);
    }

pub shape_of-pool : goal.shape_of-pool
shape_of-pool c =
    c.replace_all.auto.pool ∙ c.grow_in_place.auto.pool ∙ c.survey_pages-bad.auto.homes

pub returns : goal.returns
returns c =
    record {
      value = (still-done _ _ _ _ _ _ c.args.page _ (c.grow_in_place.ensures.kept c.if-grow_in_place.false) (c.replace_all.ensures.value, c.replace_all.ensures.owners_value)).0;
      owners_value = (still-done _ _ _ _ _ _ c.args.page _ (c.grow_in_place.ensures.kept c.if-grow_in_place.false) (c.replace_all.ensures.value, c.replace_all.ensures.owners_value)).1;
    }
