-- The reach of an entry, block after block: what stands when the pages below page lo are planned, and what the plan from there on answers.
use Rattle.std.specs.Prelude.{◌≡◌, Bool, true, false, ◌&&◌, ◌||◌, List, ◌++◌, map, ℕ, suc, ◌+◌, ◌≤◌, ◌<◌, ltb, eqb, length, take, drop, get_or}
use Rattle.hashing.specs.declared.Parameters.{Parameters}
use Rattle.hashing.specs.declared.Growth.{Growth}
use Rattle.hashing.specs.declared.Geometry.{Geometry}
use Rattle.pages.specs.Shape.{stretch}
use Rattle.pages.specs.Position.{valid_number}
use Rattle.placement.specs.Rule.{Star, Contents, pages, left, insert, separators}
use Rattle.placement.specs.File.{File, pages_at, gathered, column}
use Rattle.placement.specs.Hash.{hash_of, sound_at, named_page_lem}
use Rattle.placement.specs.Lent.{Lent}
use Rattle.placement.proofs.Mapping.{mapped}
use Rattle.reach.specs.Reach.{stored_top, enters_within}
use Rattle.page_separator.specs.Lists.{all}
use Rattle.page_separator.specs.Words.{number_in}
use Rattle.page_separator.specs.Probes.{homes_up_to}
use Rattle.page_plan.specs.Plans.{waits, homed}
use Rattle.page_plan.specs.Sources.{renamed, sourced}
use Rattle.page_plan.proofs.Applying.{Sourced}
use Rattle.entry_reach.specs.Entry.{Unheld, new_star_lem, entry_start, reach_answer, AppliesFrom, block_end, BlockSound}
use Rattle.entry_reach.specs.declared.blocks.Reach.{Reach}

-- every word is of the star k or of one that the separators name a page below q for
unfoldable pub apart : Parameters → Growth → File → ℕ → ℕ → List ℕ → Bool
apart p g f k q l = all (λ w. eqb (number_in w) k || ltb (named_page_lem p g f.separators (number_in w)) q) l

-- the words w, of the star k and of stars that stand below page lo, may be carried to it
pub record Carriable (p : Parameters) (g : Growth) (f : File) (k lo : ℕ) (w : List ℕ) : Type 0 where
  pub true_homes : homed (hash_of p g) w ≡ true
  pub near : homes_up_to lo w ≡ true
  pub true_sources : sourced f.numbers k w ≡ true
  pub below : apart p g f k lo w ≡ true

-- what the rule gives the n pages from home on, of their stars and the star k, and what it carries past them
abbrev pub entered_pages : Parameters → Growth → File → ℕ → ℕ → ℕ → ℕ → List Contents
entered_pages p g f k n word owner = pages (hash_of p g) (entry_start p g k) n (insert (new_star_lem k word owner) (gathered p.places f (entry_start p g k) n))

abbrev pub entered_left : Parameters → Growth → File → ℕ → ℕ → ℕ → ℕ → List Star
entered_left p g f k n word owner = left (hash_of p g) (entry_start p g k) n (insert (new_star_lem k word owner) (gathered p.places f (entry_start p g k) n))

-- sound pages from home on: the first `kept` stay as they are, the next `count`, from page `start`, are planned, and w is carried past them
pub record Spanned (p : Parameters) (g : Growth) (f : File) (k start kept count : ℕ) (pool planned w : List ℕ) : Type 0 where
  pub starts : start ≡ entry_start p g k + kept
  pub most : start + count ≤ p.pages
  pub sound : (q : ℕ) → entry_start p g k ≤ q → q < start + count → sound_at p g f q ≡ true
  pub contents : List Contents
  pub sources : stretch p.places start count pool ≡ column p.places (λ (s : Star). s.payload.word) contents
  pub separators_are : take count (drop start planned) ≡ separators contents
  pub all_sourced : Sourced f.numbers k contents
  pub are : (word owner : ℕ) → entered_pages p g f k (kept + count) word owner
      ≡ pages_at p.places f (entry_start p g k) kept ++ map (mapped (renamed f.words f.owners word owner)) contents
  pub carried : (word owner : ℕ) → map (renamed f.words f.owners word owner) (waits w) ≡ entered_left p g f k (kept + count) word owner
  pub words : Carriable p g f k (start + count) w

-- a page at which the reach may end
abbrev pub ending : Parameters → Growth → File → Star → ℕ → Bool
ending p g f s q = stored_top f.separators (hash_of p g).top q && enters_within (hash_of p g) f s q

-- they are the pages below page lo, end at a page whose separator is top, and at none of them the reach ends
pub record Reached (p : Parameters) (g : Growth) (f : File) (k start lo : ℕ) (pool planned w : List ℕ) : Type 0 where
  pub kept : ℕ
  pub count : ℕ
  pub at : lo ≡ start + count
  pub inside : lo < p.pages
  pub spanned : Spanned p g f k start kept count pool planned w
  pub ended : (e : ℕ) → entry_start p g k ≤ e → suc e ≡ lo → get_or f.separators e 0 ≡ (hash_of p g).top
  pub passed : (word owner q : ℕ) → entry_start p g k ≤ q → q < lo → ending p g f (new_star_lem k word owner) q ≡ false

-- what planning the reach of the star k goes on to answer from page lo, where the pages from `start` to it are planned
abbrev pub PlansOnward : Geometry → File → ℕ → ℕ → Lent → Lent → Lent → Reach → Type 0
PlansOnward g f lo incoming pool waiting planned r =
    (k start : ℕ) → valid_number k ≡ true → Unheld g.parameters g.growth f k
    → Reached g.parameters g.growth f k start lo pool.entry.now planned.entry.now (take incoming waiting.entry.now)
    → ((word owner : ℕ) → r ≡ reach_answer g.parameters g.growth f (new_star_lem k word owner))
    × AppliesFrom g.parameters g.growth f k start pool.exit.now planned.exit.now r

-- the run from the star's home to page `last` is planned from its named page on, and words are carried past it
pub record LeavesRun (p : Parameters) (g : Growth) (f : File) (k page last : ℕ) (pool planned w : List ℕ) : Type 0 where
  pub ends : last ≡ block_end p g f (entry_start p g k)
  pub sound : BlockSound p g f (entry_start p g k)
  pub some : 0 < length w
  pub low : page ≤ last
  pub kept : ℕ
  pub count : ℕ
  pub at : suc last ≡ page + count
  pub spanned : Spanned p g f k page kept count pool planned w
