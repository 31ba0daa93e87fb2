-- The entry by a cascade, from the page that the separators name upward: document 02 (ix).
use Rattle.std.specs.Prelude.{◌≡◌, false, cond, List, [], ◌∷◌, ℕ, ◌+◌, ◌-◌, ◌≤◌, ◌<◌, ltb, length}
use Rattle.hashing.specs.declared.Parameters.{Parameters}
use Rattle.hashing.specs.declared.Growth.{Growth}
use Rattle.placement.specs.Rule.{Star, Contents, separators}
use Rattle.placement.specs.File.{File, replaced}
use Rattle.placement.specs.Hash.{hash_of}
use Rattle.reach.specs.Reach.{is_empty, pages_to, first_unsound_lem, holding}
use Rattle.reach.specs.Cascade.{cascaded, carried_past}
use Rattle.page_plan.proofs.Applying.{applied}
use Rattle.entry_reach.specs.declared.blocks.Reach.{Reach}
use Rattle.entry_reach.specs.declared.blocks.Reach.TheVariants.{Ends, Unsound, Overflows}
use Rattle.page_plan.specs.declared.outcome.Outcome.{Outcome}
use Rattle.page_plan.specs.declared.outcome.Outcome.TheVariants.{On, Unsound as outcome·Unsound, Overflows as outcome·Overflows}
use Rattle.entry_reach.specs.Entry.{new_star_lem}

-- what the pages visited get, of the star s that comes to `page`, and what is carried past page M−1
abbrev pub visited : Parameters → Growth → File → Star → ℕ → List Contents
visited p g f s page = cascaded (hash_of p g) f page (p.pages - page) (s ∷ [])

abbrev pub overflow : Parameters → Growth → File → Star → ℕ → List Star
overflow p g f s page = carried_past (hash_of p g) f page (p.pages - page) (s ∷ [])

-- the page past those visited
abbrev pub stop_of : Parameters → Growth → File → Star → ℕ → ℕ
stop_of p g f s page = page + length (visited p g f s page)

abbrev pub cascade_unsound : Parameters → Growth → File → Star → ℕ → ℕ
cascade_unsound p g f s page = first_unsound_lem p g f page (length (visited p g f s page))

-- one thing if a visited page is unsound, another if a star is carried past page M−1, a third if none is
abbrev pub by_cascade : {A : Type 0} → Parameters → Growth → File → Star → ℕ → A → A → A → A
by_cascade p g f s page unsound overflows enters =
    cond (ltb (cascade_unsound p g f s page) (stop_of p g f s page)) unsound (cond (is_empty (overflow p g f s page)) enters overflows)

-- "a visited page that is unsound is 5"; accepted, the answer is the star's page
unfoldable pub cascade_answer : Parameters → Growth → File → Star → ℕ → Outcome
cascade_answer p g f s page =
    by_cascade p g f s page
    (outcome·Unsound (cascade_unsound p g f s page))
    outcome·Overflows
    (On (holding s.number page (visited p g f s page)))

-- "5 and 8 leave the file unchanged"
unfoldable pub cascade_file : Parameters → Growth → File → Star → ℕ → File
cascade_file p g f s page = by_cascade p g f s page f f (replaced p.places f page (visited p g f s page))

-- q is the first unsound page visited
pub record Stopped (p : Parameters) (g : Growth) (f : File) (s : Star) (page q : ℕ) : Type 0 where
  pub is : q ≡ cascade_unsound p g f s page
  pub inside : q < stop_of p g f s page

-- the pages visited are sound, and a star is carried past page M−1
pub record Spilled (p : Parameters) (g : Growth) (f : File) (s : Star) (page : ℕ) : Type 0 where
  pub sound : cascade_unsound p g f s page ≡ stop_of p g f s page
  pub over : is_empty (overflow p g f s page) ≡ false

-- they are sound, none is, none is carried past page `last`, and the planned sources and separators of the pages up to it are theirs
pub record CascadeKept (p : Parameters) (g : Growth) (f : File) (k word owner page : ℕ) (pool planned : List ℕ) (last : ℕ) : Type 0 where
  pub sound : cascade_unsound p g f (new_star_lem k word owner) page ≡ stop_of p g f (new_star_lem k word owner) page
  pub none : overflow p g f (new_star_lem k word owner) page ≡ []
  pub within : carried_past (hash_of p g) f page (pages_to page last) (new_star_lem k word owner ∷ []) ≡ []
  pub applies : applied p.places page (pages_to page last) k word owner pool planned f ≡ replaced p.places f page (visited p g f (new_star_lem k word owner) page)

-- what planning the cascade of the star k answers and leaves, with any word and owner
abbrev pub Plans : Parameters → Growth → File → ℕ → ℕ → List ℕ → List ℕ → Reach → Type 0
Plans p g f k page pool planned (Unsound q) = (word owner : ℕ) → Stopped p g f (new_star_lem k word owner) page q
Plans p g f k page pool planned Overflows = (word owner : ℕ) → Spilled p g f (new_star_lem k word owner) page
Plans p g f k page pool planned (Ends last) =
    (page ≤ last) × ((last < p.pages) × ((word owner : ℕ) → CascadeKept p g f k word owner page pool planned last))
