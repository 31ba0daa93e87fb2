-- A stretch of pages planned over its own stars and placed anew where they fit. Assumes nothing.
use Rattle.std.specs.Prelude.{◌≡◌, Bool, true, cond, List, [], map, ℕ, ◌+◌, ◌*◌, ◌^◌, ◌≤◌, ◌<◌, eqb, length}
use Rattle.pages.specs.Shape.{stretch}
use Rattle.hashing.specs.declared.Parameters.{Parameters}
use Rattle.placement.specs.Rule.{Contents}
use Rattle.placement.specs.File.{File, replaced}
use Rattle.placement.proofs.Mapping.{mapped}
use Rattle.page_separator.specs.Lists.{all_below}
use Rattle.page_plan.specs.Gather.{stretch_words}
use Rattle.page_plan.specs.Sources.{renamed}
use Rattle.page_plan.specs.Plans.{plans, remains}

-- the lists as long as the stretch needs, numbers of 31 bits, and homes below the page past it
pub record StretchReady (q : Parameters) (lo n : ℕ) (f : File) (pool waiting poolowners : List ℕ) : Type 0 where
  pub places_most : q.places ≤ 32
  pub some : 0 < n
  pub pages_most : lo + n ≤ 1024
  pub separators_long : lo + n ≤ length f.separators
  pub numbers_long : (lo + n) * q.places ≤ length f.numbers
  pub words_long : (lo + n) * q.places ≤ length f.words
  pub owners_long : (lo + n) * q.places ≤ length f.owners
  pub pool_long : (lo + n) * q.places ≤ length pool
  pub waiting_long : (lo + n) * q.places ≤ length waiting
  pub poolowners_long : (lo + n) * q.places ≤ length poolowners
  pub waiting-most : length waiting ≤ 32768
  pub valid : all_below (2 ^ 31) (stretch q.places lo n f.numbers) ≡ true
  pub within : all_below (lo + n) (stretch q.places lo n pool) ≡ true

-- the pages that the plan gives the stretch's stars but the star k, with the words and owners that their sources name; hs are the items' homes
unfoldable pub new_pages : Parameters → ℕ → ℕ → ℕ → File → List ℕ → List Contents
new_pages q lo n k f hs =
    map (mapped (renamed f.words f.owners 0 0)) (plans q lo 0 n [] (stretch_words q.places lo n k f.numbers hs))

-- nothing is carried past them
unfoldable pub fitting : Parameters → ℕ → ℕ → ℕ → File → List ℕ → Bool
fitting q lo n k f hs = eqb (length (remains q lo 0 n [] (stretch_words q.places lo n k f.numbers hs))) 0

unfoldable pub restretched : Parameters → ℕ → ℕ → ℕ → File → List ℕ → File
restretched q lo n k f hs = cond (fitting q lo n k f hs) (replaced q.places f lo (new_pages q lo n k f hs)) f
