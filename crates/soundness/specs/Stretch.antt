-- A stretch of pages by its items and their homes, as lists that may begin elsewhere.
use Rattle.std.specs.Prelude.{◌≡◌, Bool, true, false, ◌&&◌, List, ℕ, ◌+◌, ◌-◌, ◌*◌, ◌≤◌, ◌<◌, eqb, length, get_or, take, drop}
use Rattle.hashing.specs.declared.Geometry.{Geometry}
use Rattle.placement.specs.Shape.{home_in}
use Rattle.soundness.specs.Survey.{sound_in}

-- hs has, from `to` on, the homes of n items of ns from `at` on
abbrev pub HomesAt : Geometry → ℕ → ℕ → ℕ → List ℕ → List ℕ → Type 0
HomesAt g n at to ns hs = (i : ℕ) → i < n → get_or hs (to + i) 0 ≡ home_in g.parameters g.growth (get_or ns (at + i) 0)

-- a table of n entries has what signs each star of a page of b places on it, by its home
abbrev pub SignableAt : ℕ → ℕ → ℕ → ℕ → ℕ → List ℕ → List ℕ → Type 0
SignableAt n b page at to ns hs = (i : ℕ) → i < b → (get_or ns (at + i) 0 ≡ 0 → ⊥) → 2 * (page + 1 - get_or hs (to + i) 0) < n

-- the lists reach to these items and homes
pub record Items (items homed : ℕ) (ns ws os hs : List ℕ) : Type 0 where
  pub numbers : items ≤ length ns
  pub words : items ≤ length ws
  pub owners : items ≤ length os
  pub homes : homed ≤ length hs

-- pages of the file from `from` up to the one before `stop`: their items from `at` on, and the homes of these from `to` on
pub record HomedItems (g : Geometry) (at to from stop : ℕ) (seps ns ws os hs : List ℕ) : Type 0 where
  pub separated : length seps ≡ g.parameters.pages
  pub order : from ≤ stop
  pub inside : stop ≤ g.parameters.pages
  pub items : Items (at + (stop - from) * g.parameters.places) (to + (stop - from) * g.parameters.places) ns ws os hs
  pub homes : HomesAt g ((stop - from) * g.parameters.places) at to ns hs

-- the items from `first` up to the one before `last` are empty places that hold nothing
abbrev pub Unused : List ℕ → List ℕ → List ℕ → ℕ → ℕ → Type 0
Unused ns ws os first last = (j : ℕ) → first ≤ j → j < last → (get_or ns j 0 ≡ 0) × (eqb (get_or ws j 0) 0 && eqb (get_or os j 0) 0 ≡ true)

-- a page is sound, by its items from `at` on
unfoldable pub sound_from : Geometry → List ℕ → List ℕ → List ℕ → List ℕ → ℕ → ℕ → Bool
sound_from g seps ns ws os at page =
    sound_in g.parameters g.growth seps page (take g.parameters.places (drop at ns)) (take g.parameters.places (drop at ws)) (take g.parameters.places (drop at os))

-- .. where the items of page `from` begin at `at`
abbrev pub sound_of : Geometry → List ℕ → List ℕ → List ℕ → List ℕ → ℕ → ℕ → ℕ → Bool
sound_of g seps ns ws os at from page = sound_from g seps ns ws os (at + (page - from) * g.parameters.places) page

-- r is the first number from `from` up to the one before `stop` that fails the test, or `stop`
pub record Lowest (test : ℕ → Bool) (from stop r : ℕ) : Type 0 where
  pub low : from ≤ r
  pub high : r ≤ stop
  pub passed : (q : ℕ) → from ≤ q → q < r → test q ≡ true
  pub failed : r < stop → test r ≡ false
