-- A page edited in place: nothing without a store, all of it with one.
use Rattle.std.specs.Prelude.{◌≡◌, cond, List, map, ℕ, ◌*◌, eqb}
use Rattle.buffers.specs.Lists.{padded, written}
use Rattle.placement.specs.Rule.{Star}
use Rattle.placement.specs.Lent.{Lent}

-- a list of items, with these stars' on the page in the place of its own
abbrev pub standing : ℕ → ℕ → (Star → ℕ) → List Star → List ℕ → List ℕ
standing places page g stars l = written (page * places) (padded places (map g stars)) l

pub record Edited (places page : ℕ) (stars : List Star) (limit : ℕ) (numbers words owners : Lent) : Type 0 where
  pub of_numbers : numbers.exit.now ≡ cond (eqb limit 0) numbers.entry.now (standing places page (λ (s : Star). s.number) stars numbers.entry.now)
  pub of_words_lem : words.exit.now ≡ cond (eqb limit 0) words.entry.now (standing places page (λ (s : Star). s.payload.word) stars words.entry.now)
  pub of_owners : owners.exit.now ≡ cond (eqb limit 0) owners.entry.now (standing places page (λ (s : Star). s.payload.owner) stars owners.entry.now)
