-- Words of waiting stars in order: groups by home, neighbours that are one star's, and the first word of each star. Assumes nothing.
use Rattle.std.specs.Prelude.{◌≡◌, Bool, true, cond, not, ◌&&◌, ◌||◌, List, [], ◌∷◌, ℕ, suc, ◌/◌, ◌^◌, ◌≤◌, ◌<◌, eqb, length, get_or, take}
use Rattle.plan_transfer.specs.Sources.{named_item}
use Rattle.page_separator.specs.Words.{home_of, source_of}
use Rattle.page_plan.specs.Gather.{grouped}

-- home and number of a word
unfoldable pub number_key : ℕ → ℕ
number_key w = w / 2 ^ 16

-- where each of the first `count` groups of the words l ends
pub record Ends (count : ℕ) (l ends : List ℕ) : Type 0 where
  pub ended : (v : ℕ) → v < count → get_or ends v 0 ≡ length (grouped 0 0 (suc v) l)

-- the first `end` words are in groups by home
pub record InGroups (count end : ℕ) (W ends : List ℕ) : Type 0 where
  pub inside : end ≤ length W
  pub few : length W ≤ 32768
  pub long : count ≤ length ends
  pub words : grouped 0 0 count (take end W) ≡ take end W
  pub ends_are : Ends count (take end W) ends

-- r is the first place from `from` on whose word is homed above page p, or `end`
pub record EndOf (p from end : ℕ) (W : List ℕ) (r : ℕ) : Type 0 where
  pub low : from ≤ r
  pub high : r ≤ end
  pub before : (j : ℕ) → from ≤ j → j < r → home_of (get_or W j 0) ≤ p
  pub after : r < end → p < home_of (get_or W r 0)

-- not a "star number [that] occurs with two different words or owners", of two words
unfoldable pub pair_agrees_lem : List ℕ → List ℕ → ℕ → ℕ → Bool
pair_agrees_lem ws os x y =
    not (eqb (number_key x) (number_key y))
    || (eqb (named_item ws 0 (source_of x)) (named_item ws 0 (source_of y)) && eqb (named_item os 0 (source_of x)) (named_item os 0 (source_of y)))

unfoldable pub leads_agreed : List ℕ → List ℕ → ℕ → List ℕ → Bool
leads_agreed ws os x [] = true
leads_agreed ws os x (y ∷ l) = pair_agrees_lem ws os x y && leads_agreed ws os y l

unfoldable pub neighbours_agree : List ℕ → List ℕ → List ℕ → Bool
neighbours_agree ws os [] = true
neighbours_agree ws os (x ∷ l) = leads_agreed ws os x l

-- the first word of each key, where words of one key stand side by side; the key k is past
unfoldable pub firsts_after : ℕ → List ℕ → List ℕ
firsts_after k [] = []
firsts_after k (x ∷ l) = cond (eqb (number_key x) k) (firsts_after k l) (x ∷ firsts_after (number_key x) l)
