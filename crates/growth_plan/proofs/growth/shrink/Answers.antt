-- `growth_plan::growth::shrink` meets its contract.
use mathlib.Core.Path.{◌≡◌, ◌∙◌, refl}
use native.Mathlib.Nat.{le_refl}
use native.Mathlib.Omega.{arith}
use Rattle.placement.specs.Hash.{lent}
use Rattle.placement.specs.Shape.{homes_of}
use Rattle.placement.specs.Ready.{Pooled}
use Rattle.reach.specs.Reach.{first_unsound_lem}
use Rattle.reach.proofs.Surveyed.{known-none}
use Rattle.growth_plan.proofs.Growing.{growth_refused, surveyed-all, surveyed-sound}
use Rattle.growth_plan.proofs.GivenBack.{homes-kept, moved_on, moved-not}
use Rattle.growth_plan.proofs.growth.shrink.Goals as goal

-- all pages are sound, and the pool holds the homes of their items
pub survey_pages-bad-requires : goal.survey_pages-bad-requires
survey_pages-bad-requires c =
    record {
      ready = c.requires.ready;
      homes_len = c.requires.pooled.of_numbers;
      from_le_stop = omega arith;
      stop_le_pages = omega arith;
      known = known-none _ _ _ _ _ (le_refl _);
    }

pub shape_of-separators-then-bad-pages : goal.shape_of-separators-then-bad-pages
shape_of-separators-then-bad-pages c = refl

pub shape_of-numbers-then-bad-pages : goal.shape_of-numbers-then-bad-pages
shape_of-numbers-then-bad-pages c = refl

pub shape_of-words-then-bad-pages : goal.shape_of-words-then-bad-pages
shape_of-words-then-bad-pages c = refl

pub shape_of-owners-then-bad-pages : goal.shape_of-owners-then-bad-pages
shape_of-owners-then-bad-pages c = refl

pub returns-then-bad-pages : goal.returns-then-bad-pages
returns-then-bad-pages c =
    record {
      value = (growth_refused _ _ _ c.requires.ready.homing.valid c.requires.ready.sized _ c.args.page _ c.survey_pages-bad.ensures.value c.if-bad-pages.true).0;
      owners_value = (growth_refused _ _ _ c.requires.ready.homing.valid c.requires.ready.sized _ c.args.page _ c.survey_pages-bad.ensures.value c.if-bad-pages.true).1;
    }

pub is_simple-requires : goal.is_simple-requires
is_simple-requires c =
    let pooled : Pooled c.args.geometry.parameters c.survey_pages-bad.new.homes c.args.waiting.now c.args.poolowners.now = let pool = c.requires.pooled in record { of_numbers = c.survey_pages-bad.auto.homes ∙ pool.of_numbers; of_words_lem = pool.of_words_lem; of_owners = pool.of_owners } in
    let homed : c.survey_pages-bad.new.homes ≡ homes_of c.args.geometry.parameters c.args.geometry.growth c.args.numbers.now = surveyed-all _ _ (lent c.args.separators.now c.args.numbers.now c.args.words.now c.args.owners.now) c.requires.ready.homing.valid c.requires.ready.sized _ c.survey_pages-bad.ensures.value c.if-bad-pages.false _ _ c.requires.pooled.of_numbers c.survey_pages-bad.ensures.homes_after in
    record {
      parameters_value = c.requires.ready.homing.valid;
      growth_value = c.requires.ready.homing.growth;
      homed = homes-kept _ _ (lent c.args.separators.now c.args.numbers.now c.args.words.now c.args.owners.now) _ c.requires.ready.sized pooled.of_numbers homed;
    }

pub replace_all-requires : goal.replace_all-requires
replace_all-requires c =
    let pooled : Pooled c.args.geometry.parameters c.survey_pages-bad.new.homes c.args.waiting.now c.args.poolowners.now = let pool = c.requires.pooled in record { of_numbers = c.survey_pages-bad.auto.homes ∙ pool.of_numbers; of_words_lem = pool.of_words_lem; of_owners = pool.of_owners } in
    let sound : let p = c.args.geometry.parameters in first_unsound_lem p c.args.geometry.growth (lent c.args.separators.now c.args.numbers.now c.args.words.now c.args.owners.now) 0 p.pages ≡ p.pages = surveyed-sound _ _ (lent c.args.separators.now c.args.numbers.now c.args.words.now c.args.owners.now) c.requires.ready.homing.valid c.requires.ready.sized _ c.survey_pages-bad.ensures.value c.if-bad-pages.false in
    let homed : c.survey_pages-bad.new.homes ≡ homes_of c.args.geometry.parameters c.args.geometry.growth c.args.numbers.now = surveyed-all _ _ (lent c.args.separators.now c.args.numbers.now c.args.words.now c.args.owners.now) c.requires.ready.homing.valid c.requires.ready.sized _ c.survey_pages-bad.ensures.value c.if-bad-pages.false _ _ c.requires.pooled.of_numbers c.survey_pages-bad.ensures.homes_after in
    record {
      ready = c.requires.ready;
      pooled = pooled;
      movable = c.requires.movable;
      pages_value = sound;
      pool_value = homed;
    }

pub move_own-requires : goal.move_own-requires
move_own-requires c =
    let pooled : Pooled c.args.geometry.parameters c.survey_pages-bad.new.homes c.args.waiting.now c.args.poolowners.now = let pool = c.requires.pooled in record { of_numbers = c.survey_pages-bad.auto.homes ∙ pool.of_numbers; of_words_lem = pool.of_words_lem; of_owners = pool.of_owners } in
    let sound : let p = c.args.geometry.parameters in first_unsound_lem p c.args.geometry.growth (lent c.args.separators.now c.args.numbers.now c.args.words.now c.args.owners.now) 0 p.pages ≡ p.pages = surveyed-sound _ _ (lent c.args.separators.now c.args.numbers.now c.args.words.now c.args.owners.now) c.requires.ready.homing.valid c.requires.ready.sized _ c.survey_pages-bad.ensures.value c.if-bad-pages.false in
    let homed : c.survey_pages-bad.new.homes ≡ homes_of c.args.geometry.parameters c.args.geometry.growth c.args.numbers.now = surveyed-all _ _ (lent c.args.separators.now c.args.numbers.now c.args.words.now c.args.owners.now) c.requires.ready.homing.valid c.requires.ready.sized _ c.survey_pages-bad.ensures.value c.if-bad-pages.false _ _ c.requires.pooled.of_numbers c.survey_pages-bad.ensures.homes_after in
    record {
      ready = c.requires.ready;
      pooled = pooled;
      movable = c.requires.movable;
      pages_value = sound;
      pool_value = homed;
      simple = c.is_simple.ensures c.if-not-is_simple.false;
    }

pub returns-then-move_own : goal.returns-then-move_own
returns-then-move_own c = record {
  value = (moved_on _ _ _ _ _ c.move_own.ensures c.if-move_own.true c.args.page).0;
  owners_value = (moved_on _ _ _ _ _ c.move_own.ensures c.if-move_own.true c.args.page).1;
}

pub returns : goal.returns
returns c = record {
  value = (moved-not _ _ _ _ _ c.move_own.ensures c.if-move_own.false c.args.page).0;
  owners_value = (moved-not _ _ _ _ _ c.move_own.ensures c.if-move_own.false c.args.page).1;
}
