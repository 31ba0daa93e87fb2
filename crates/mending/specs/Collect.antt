-- The words of all stars of a file in order, one for each number. Assumes nothing.
use Rattle.std.specs.Prelude.{◌≡◌, true, List, ℕ, ◌+◌, ◌*◌, ◌^◌, ◌≤◌, ◌<◌, length, take}
use Rattle.pages.specs.Shape.{stretch}
use Rattle.hashing.specs.declared.Parameters.{Parameters}
use Rattle.hashing.specs.Limits.{valid_parameters}
use Rattle.page_separator.specs.Lists.{all_below}
use Rattle.page_plan.specs.Gather.{grouped, stretch_words}
use Rattle.sorting.specs.Order.{ordered}
use Rattle.duplicates.specs.Words.{Ends, neighbours_agree, firsts_after}
use Rattle.mending.specs.declared.collection.Collected.{Collected}

-- of numbers ns with the homes hs
unfoldable pub file_words : Parameters → List ℕ → List ℕ → List ℕ
file_words p ns hs = ordered (grouped 0 0 p.pages (stretch_words p.places 0 p.pages 0 ns hs))

-- numbers of 31 bits and homes of the file's pages, with room for all their words
pub record Collectable (p : Parameters) (ns hs W ends : List ℕ) : Type 0 where
  pub valid : valid_parameters p ≡ true
  pub some : 0 < p.pages
  pub of_numbers : length ns ≡ p.pages * p.places
  pub of_homes : length hs ≡ p.pages * p.places
  pub of_words_lem : length W ≡ p.pages * p.places
  pub of_ends : length ends ≡ 1024
  pub numbered : all_below (2 ^ 31) (stretch p.places 0 p.pages ns) ≡ true
  pub within : all_below (0 + p.pages) (stretch p.places 0 p.pages hs) ≡ true

pub record Collects (p : Parameters) (ns ws os hs W ends : List ℕ) (r : Collected) : Type 0 where
  pub alike_is : r.alike ≡ neighbours_agree ws os (file_words p ns hs)
  pub inside : r.end ≤ length W
  pub words : r.alike ≡ true → take r.end W ≡ firsts_after 0 (file_words p ns hs)
  pub ends_are : r.alike ≡ true → Ends p.pages (take r.end W) ends
