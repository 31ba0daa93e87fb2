-- The soundness of a page by its items, as it is tested: each item after the one before.
use Rattle.std.specs.Prelude.{◌≡◌, Bool, true, cond, ◌&&◌, List, ℕ, ◌+◌, ◌-◌, ◌*◌, ◌≤◌, ◌<◌, leb, ltb, eqb, length, get_or, take}
use Rattle.hashing.specs.declared.Parameters.{Parameters}
use Rattle.hashing.specs.declared.Growth.{Growth}
use Rattle.hashing.specs.declared.Geometry.{Geometry}
use Rattle.generator.specs.Generator.{top_of_lem}
use Rattle.hashing.specs.Geometry.{multiplier_of}
use Rattle.hashing.specs.Home.{home}
use Rattle.pages.specs.Position.{valid_word}
use Rattle.placement.specs.Rule.{Star}
use Rattle.placement.specs.File.{stars_of, greatest, orderly, every}
use Rattle.placement.specs.Hash.{named_page_lem}
use Rattle.placement.specs.Shape.{home_in, homes_of}
use Rattle.soundness.specs.declared.testing.Item.{Item}

-- The items after the number `last` are in order, and each star stands on this page.
unfoldable pub admits : Parameters → Growth → List ℕ → ℕ → ℕ → List ℕ → List ℕ → List ℕ → Bool
admits p g seps page last ns ws os =
    orderly valid_word last ns ws os && every (λ (s : Star). eqb (named_page_lem p g seps s.number) page) (stars_of ns ws os)

-- A page is sound, by its numbers, words and owners.
unfoldable pub sound_in : Parameters → Growth → List ℕ → ℕ → List ℕ → List ℕ → List ℕ → Bool
sound_in p g seps page ns ws os = leb (get_or seps page 0) (top_of_lem p.bits) && admits p g seps page 0 ns ws os

-- The same of one item: an empty place has word and owner 0; a star's number is above `last` and in range, its word is valid.
unfoldable pub admits_item : Parameters → Growth → List ℕ → ℕ → ℕ → ℕ → ℕ → ℕ → Bool
admits_item p g seps page last n w o =
    cond (eqb n 0)
    (eqb w 0 && eqb o 0)
    (ltb last n && (leb n greatest && (valid_word w && eqb (named_page_lem p g seps n) page)))

-- What the next number must exceed: after an empty place no number is taken.
abbrev pub last_after : ℕ → ℕ
last_after n = cond (eqb n 0) greatest n

-- What is told of an item.
pub record TestedItem (p : Parameters) (g : Growth) (seps : List ℕ) (page low n w o : ℕ) (r : Item) : Type 0 where
  pub sound : r.sound ≡ admits_item p g seps page low n w o
  pub home : r.sound ≡ true → r.home ≡ home_in p g n
  pub last : r.sound ≡ true → r.last ≡ last_after n

-- hs has the homes of a page's numbers ns before the first empty place
abbrev pub Found : Geometry → List ℕ → List ℕ → Type 0
Found g ns hs =
    (i : ℕ) → i < g.parameters.places → ((j : ℕ) → j ≤ i → get_or ns j 0 ≡ 0 → ⊥)
    → get_or hs i 0 ≡ home (multiplier_of g.parameters) g.parameters g.growth (get_or ns i 0)

-- a table of n entries has what signs each star on the page, by its home
abbrev pub SignableOn : ℕ → ℕ → List ℕ → List ℕ → Type 0
SignableOn n page ns hs = (i : ℕ) → i < 32 → (get_or ns i 0 ≡ 0 → ⊥) → 2 * (page + 1 - get_or hs i 0) < n

-- What testing a page's items needs, by the values of its places: a separator in range, and the homes found.
pub record Testable (g : Geometry) (seps : List ℕ) (page : ℕ) (ns ws os found hs : List ℕ) : Type 0 where
  pub separated : length seps ≡ g.parameters.pages
  pub inside : page < g.parameters.pages
  pub numbers : length ns ≡ 32
  pub words : length ws ≡ 32
  pub owners : length os ≡ 32
  pub homes : length hs ≡ 32
  pub topped : get_or seps page 0 ≤ top_of_lem g.parameters.bits
  pub homed : Found g ns found

-- What is told of a page, by the values of its places.
pub record Tested (g : Geometry) (seps : List ℕ) (page : ℕ) (ns ws os homes : List ℕ) (r : Bool) : Type 0 where
  pub sound : r ≡ sound_in g.parameters g.growth seps page (take g.parameters.places ns) (take g.parameters.places ws) (take g.parameters.places os)
  pub long : length homes ≡ 32
  pub homed : r ≡ true → take g.parameters.places homes ≡ homes_of g.parameters g.growth (take g.parameters.places ns)
