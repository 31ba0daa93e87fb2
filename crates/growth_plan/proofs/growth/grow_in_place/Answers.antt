use mathlib.Core.Path.{◌≡◌, refl, sym, ◌∙◌}
use mathlib.Core.Bool.{false≢true}
use mathlib.Core.List.{List}
use Prim.Native.Nat.{ℕ}
use Rattle.placement.specs.Hash.{lent}
use Rattle.growth_in_place.specs.Expansion.{Moved}
use Rattle.growth_plan.proofs.InPlace.{grown-answer, grown-file}
use Rattle.growth_plan.proofs.growth.grow_in_place.Goals as goal

same-file : (s n n' w w' o o' : List ℕ) → n' ≡ n → w' ≡ w → o' ≡ o → lent s n' w' o' ≡ lent s n w o
same-file s n n' w w' o o' en ew eo = rw (en, ew, eo)

-- the stars were moved
pub move_stars-requires : goal.move_stars-requires
move_stars-requires c =
    record {
      ready = c.requires.ready;
      homes_value = c.requires.pool_value;
      pages_value = c.requires.pages_value;
      growth_bound = c.requires.movable;
    }

pub shape_of-separators-then-not-move_stars : goal.shape_of-separators-then-not-move_stars
shape_of-separators-then-not-move_stars c = refl

pub returns-then-not-move_stars : goal.returns-then-not-move_stars
returns-then-not-move_stars c =
    let still = c.move_stars.ensures.untouched c.if-not-move_stars.true in
    record {
      accepts = λ e. absurd (false≢true e);
      file = λ e. absurd (false≢true e);
      kept = λ _. same-file _ _ _ _ _ _ _ still.of_numbers still.of_words_lem still.of_owners;
      pool_kept = λ _. still.of_homes;
    }

pub grown-growth-requires : goal.grown-growth-requires
grown-growth-requires c = record {
  parameters_value = c.requires.ready.homing.valid;
  growth_value = c.requires.ready.homing.growth;
  growth_bound = c.requires.movable;
}

pub replace_blocks-requires : goal.replace_blocks-requires
replace_blocks-requires c =
    let moved : let exit = c.move_stars.new in Moved c.args.geometry.parameters c.args.geometry.growth (lent c.args.separators.now c.args.numbers.now c.args.words.now c.args.owners.now) (lent c.args.separators.now exit.numbers exit.words exit.owners) exit.homes = c.move_stars.ensures.moved c.if-not-move_stars.false in
    let m = moved in
    record {
      placeable = rw c.grown-growth.ensures (record {
        valid = c.requires.ready.homing.valid;
        sized = m.sized;
        pooled = record { of_numbers = c.move_stars.auto.homes ∙ c.requires.pooled.of_numbers; of_words_lem = c.requires.pooled.of_words_lem; of_owners = c.requires.pooled.of_owners };
      });
      pages_value = rw c.grown-growth.ensures (m.all_sound_lem);
      pool_value = rw c.grown-growth.ensures (m.homes);
    }

pub returns : goal.returns
returns c =
    let moved : let exit = c.move_stars.new in Moved c.args.geometry.parameters c.args.geometry.growth (lent c.args.separators.now c.args.numbers.now c.args.words.now c.args.owners.now) (lent c.args.separators.now exit.numbers exit.words exit.owners) exit.homes = c.move_stars.ensures.moved c.if-not-move_stars.false in
    let renewed = rw c.grown-growth.ensures at c.replace_blocks.ensures in
    record {
      accepts = λ _. grown-answer _ _ _ _ _ _ c.requires.ready.sized c.requires.pages_value moved renewed;
      file = λ _. grown-file _ _ _ _ _ _ c.requires.ready.sized c.requires.pages_value moved renewed;
      kept = λ c. absurd (false≢true (sym c));
      pool_kept = λ c. absurd (false≢true (sym c));
    }
