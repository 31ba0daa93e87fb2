-- A growth planned, and one page of it in a second set of pages: document 02 (xiii).
use Rattle.std.specs.Prelude.{◌≡◌, List, ℕ, get_or}
use Rattle.hashing.specs.declared.Parameters.{Parameters}
use Rattle.hashing.specs.declared.Growth.{Growth}
use Rattle.hashing.specs.Geometry.{grown}
use Rattle.placement.specs.File.{File, pages_at, replaced}
use Rattle.placement.specs.Rule.{pages}
use Rattle.placement.specs.Shape.{blank}
use Rattle.placement.specs.Hash.{hash_of}
use Rattle.reach.specs.Reach.{all_stars}
use Rattle.growth_block.specs.Block.{NamesPage}
use Rattle.page_plan.specs.declared.outcome.Outcome.{Outcome}
use Rattle.page_plan.specs.declared.outcome.Outcome.TheVariants.{On}
use Rattle.growth_plan.specs.Growth.{by_growth, growth_file}

-- the second set with this page as the growth leaves it, where the growth is accepted
unfoldable pub page_stepped : Parameters → Growth → File → Growth → File → ℕ → File
page_stepped p g f next second step =
    by_growth p g f next second second (replaced p.places second step (pages_at p.places (growth_file p g f next) step 1))

-- where the growth is accepted, the sources in the pool and the planned separator of page `step` are its page
abbrev pub PlansStep : Parameters → Growth → File → List ℕ → List ℕ → ℕ → Outcome → Type 0
PlansStep p g f pool planned step r =
    (page : ℕ) → r ≡ On page → NamesPage p f pool planned step (get_or (pages (hash_of p (grown p g)) 0 p.pages (all_stars p f)) step blank)
