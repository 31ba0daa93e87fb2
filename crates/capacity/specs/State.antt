-- The first growth state at which growth is not due for a number of stars, all of them on addressed pages.
use Rattle.std.specs.Prelude.{◌≡◌, true, cond, ℕ, zero, suc, ◌-◌, ◌*◌, ◌≤◌, ◌<◌}
use Rattle.hashing.specs.declared.Parameters.{Parameters}
use Rattle.hashing.specs.declared.Growth.{Growth}
use Rattle.hashing.specs.Geometry.{page_count, grown, ungrown}
use Rattle.hashing.specs.Limits.{valid_parameters, valid_growth}
use Rattle.calls.specs.declared.answers.Answer.{Answer}
use Rattle.calls.specs.Answers.{counted, refused, due_said}
use Rattle.calls.specs.Due.{exceeds}
use Rattle.capacity.specs.declared.Chosen.{Chosen}

-- of a state and those that k growths lead to, the first at which 100·stars does not exceed A·b·(highest address + 1), or else the last
unfoldable pub state_from : Parameters → ℕ → Growth → ℕ → Growth
state_from p stars g zero = g
state_from p stars g (suc k) = cond (exceeds p (page_count p g) stars) (state_from p stars (grown p g) k) g

-- from (0, 0) as many growths as "n·G + x is at most M" allows, each by a page
unfoldable pub state_for_lem : Parameters → ℕ → Growth
state_for_lem p stars = state_from p stars ungrown (p.pages - p.width * p.groups)

pub record Choice : Type 0 where
  pub answer : Answer
  pub growth : Growth

-- refused with 1, or whether growth is due there, with the stars given
unfoldable pub choice_of : Parameters → ℕ → Choice
choice_of p stars =
    cond (valid_parameters p)
    (record { answer = counted (exceeds p (page_count p (state_for_lem p stars)) stars) stars; growth = state_for_lem p stars })
    (record { answer = refused 1 0; growth = ungrown })

abbrev pub chosen_as : Chosen → Choice
chosen_as r = record { answer = due_said r.answer; growth = r.growth }

-- valid; with fewer pages addressed growth would be due; due itself only where every page is addressed
pub record Suits (p : Parameters) (stars : ℕ) (g : Growth) : Type 0 where
  pub valid : valid_growth p g ≡ true
  pub least : (count : ℕ) → page_count p ungrown ≤ count → count < page_count p g → exceeds p count stars ≡ true
  pub last : exceeds p (page_count p g) stars ≡ true → page_count p g ≡ p.pages

abbrev pub StateSuits : Type 0
StateSuits = (p : Parameters) (stars : ℕ) → valid_parameters p ≡ true → Suits p stars (state_for_lem p stars)
