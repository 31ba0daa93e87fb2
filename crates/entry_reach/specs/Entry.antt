-- The entry of a star over its reach: document 01, "The cut" and "Where each refusal is met".
use Rattle.std.specs.Prelude.{◌≡◌, true, false, cond, List, ℕ, ◌+◌, ◌*◌, ◌≤◌, ◌<◌, ltb, length, take}
use Rattle.hashing.specs.declared.Parameters.{Parameters}
use Rattle.hashing.specs.declared.Growth.{Growth}
use Rattle.hashing.specs.declared.Geometry.{Geometry}
use Rattle.pages.specs.Page.{part, held_at}
use Rattle.pages.specs.Shape.{stretch}
use Rattle.pages.specs.Position.{valid_number}
use Rattle.placement.specs.Rule.{Star, Contents, pages, star_with}
use Rattle.placement.specs.File.{File, replaced}
use Rattle.placement.specs.Hash.{hash_of, sound_at, named_page_lem}
use Rattle.placement.specs.Shape.{homes_of, home_under}
use Rattle.placement.specs.Ready.{Ready}
use Rattle.placement.specs.Lent.{Lent}
use Rattle.reach.specs.Known.{Known}
use Rattle.reach.specs.Reach.{pages_to, removal_end, entering, enters_within, entry_end, first_unsound_lem, holding}
use Rattle.page_plan.specs.Gather.{stars_in, stretch_words}
use Rattle.page_plan.specs.Plans.{Planned}
use Rattle.page_plan.proofs.Applying.{applied}
use Rattle.decision.specs.declared.chosen.Decision.{Decision}
use Rattle.decision.specs.Carried.{outcome_of_lem, carried_out, Feasible}
use Rattle.entry_reach.specs.declared.blocks.Reach.{Reach}
use Rattle.entry_reach.specs.declared.blocks.Reach.TheVariants.{Ends, Unsound, Overflows}
use Rattle.entry_reach.specs.declared.blocks.Extent.{Extent}
use Rattle.entry_reach.specs.declared.blocks.Block.{Block}
use Rattle.entry_reach.specs.declared.blocks.Block.TheVariants.{Planned as block·Planned, Unsound as block·Unsound, Crowded}
use Rattle.page_plan.specs.declared.outcome.Outcome.{Outcome}
use Rattle.page_plan.specs.declared.outcome.Outcome.TheVariants.{On, Unsound as outcome·Unsound, Overflows as outcome·Overflows}

-- the page that the separators name for k is sound and does not hold it
pub record Unheld (p : Parameters) (g : Growth) (f : File) (k : ℕ) : Type 0 where
  pub named : named_page_lem p g f.separators k < p.pages
  pub sound : sound_at p g f (named_page_lem p g f.separators k) ≡ true
  pub absent : held_at k (part p.places (named_page_lem p g f.separators k) f.numbers) ≡ false

abbrev pub new_star_lem : ℕ → ℕ → ℕ → Star
new_star_lem k word owner = star_with k word owner

-- the reach: its first page, its last page, how many pages it has, the first unsound one of them, and what the rule gives them
abbrev pub entry_start : Parameters → Growth → ℕ → ℕ
entry_start p g k = (hash_of p g).home k

abbrev pub entry_last : Parameters → Growth → File → Star → ℕ
entry_last p g f s = entry_end (hash_of p g) p.pages f s

abbrev pub entry_count : Parameters → Growth → File → Star → ℕ
entry_count p g f s = pages_to (entry_start p g s.number) (entry_last p g f s)

abbrev pub entry_unsound : Parameters → Growth → File → Star → ℕ
entry_unsound p g f s = first_unsound_lem p g f (entry_start p g s.number) (entry_count p g f s)

abbrev pub entry_contents : Parameters → Growth → File → Star → List Contents
entry_contents p g f s = pages (hash_of p g) (entry_start p g s.number) (entry_count p g f s) (entering (hash_of p g) f s (entry_last p g f s))

-- one thing if a page of the reach is unsound, another if the rule carries a star past page M−1, a third if it does not
abbrev pub by_entry_reach : {A : Type 0} → Parameters → Growth → File → Star → A → A → A → A
by_entry_reach p g f s unsound overflows enters =
    cond (ltb (entry_unsound p g f s) (entry_start p g s.number + entry_count p g f s))
    unsound
    (cond (enters_within (hash_of p g) f s (entry_last p g f s)) enters overflows)

-- "pages of the reach .. upward, each as it is reached" is 5, "a star is carried past M−1" is 8
unfoldable pub reach_answer : Parameters → Growth → File → Star → Reach
reach_answer p g f s = by_entry_reach p g f s (Unsound (entry_unsound p g f s)) Overflows (Ends (entry_last p g f s))

-- "Accepted, these calls answer the star's page"
unfoldable pub entry_answer : Parameters → Growth → File → Star → Outcome
entry_answer p g f s =
    by_entry_reach p g f s
    (outcome·Unsound (entry_unsound p g f s))
    outcome·Overflows
    (On (holding s.number (entry_start p g s.number) (entry_contents p g f s)))

-- "The rule is then applied to the reach .. Other pages stay."
unfoldable pub entry_file : Parameters → Growth → File → Star → File
entry_file p g f s = by_entry_reach p g f s f f (replaced p.places f (entry_start p g s.number) (entry_contents p g f s))

-- a star that the file does not hold is to be entered, and `page` is the one that the separators name for it
pub record Enters (g : Geometry) (t : List ℕ) (f : File) (k home page : ℕ) : Type 0 where
  pub ready : Ready g t f
  pub number : valid_number k ≡ true
  pub unheld : Unheld g.parameters g.growth f k
  pub homed : home ≡ home_under g k
  pub here : page ≡ named_page_lem g.parameters g.growth f.separators k

-- a decision on the entry: it answers as the entry, and carried out it leaves the entry's file
pub record DecidesEntry (p : Parameters) (g : Growth) (f : File) (s : Star) (pool planned : List ℕ) (d : Decision) : Type 0 where
  pub answers : outcome_of_lem d ≡ entry_answer p g f s
  pub files : carried_out p.places s pool planned f d ≡ entry_file p g f s
  pub feasible : Feasible p f s.number planned d

-- where the reach ends, applying its plan, of the pages from `start` on, enters the star, with any word and owner
abbrev pub AppliesFrom : Parameters → Growth → File → ℕ → ℕ → List ℕ → List ℕ → Reach → Type 0
AppliesFrom p g f k start pool planned r =
    (word owner last : ℕ)
    → r ≡ Ends last
    → (last < p.pages)
    × (applied p.places start (pages_to start last) k word owner pool planned f ≡ entry_file p g f (new_star_lem k word owner))

abbrev pub Applies : Parameters → Growth → File → ℕ → List ℕ → List ℕ → Reach → Type 0
Applies p g f k = AppliesFrom p g f k (entry_start p g k)

-- the block from page lo: its last page, how many pages it has, and the words of its stars
abbrev pub block_end : Parameters → Growth → File → ℕ → ℕ
block_end p g f lo = removal_end (hash_of p g) p.pages f lo

abbrev pub block_count : Parameters → Growth → File → ℕ → ℕ
block_count p g f lo = pages_to lo (block_end p g f lo)

abbrev pub block_numbers : Parameters → File → ℕ → ℕ → List ℕ
block_numbers p f lo n = stretch p.places lo n f.numbers

unfoldable pub block_words : Parameters → Growth → File → ℕ → ℕ → List ℕ
block_words p g f lo n = stretch_words p.places lo n 0 f.numbers (homes_of p g f.numbers)

-- all pages of the block are sound
abbrev pub BlockSound : Parameters → Growth → File → ℕ → Type 0
BlockSound p g f lo = first_unsound_lem p g f lo (block_count p g f lo) ≡ lo + block_count p g f lo

-- the pages from `from` up to the one before `stop` are known
abbrev pub KnownTo : Parameters → Growth → File → List ℕ → ℕ → ℕ → Type 0
KnownTo p g f homes from stop = (q : ℕ) → from ≤ q → q < stop → Known p g f homes q

-- the pages of a block, and what was found of them before, with the homes kept
pub record Extends (p : Parameters) (g : Growth) (f : File) (homes : List ℕ) (e : Extent) : Type 0 where
  pub inside : e.first < p.pages
  pub ends : e.last ≡ block_end p g f e.first
  pub low : e.first ≤ e.surveyed
  pub high : e.surveyed ≤ e.last + 1
  pub tested : KnownTo p g f homes e.first e.surveyed
  pub besides : Known p g f homes e.known

pub record PlannedBlock (p : Parameters) (g : Growth) (f : File) (lo : ℕ) (w pool pool' planned planned' W' : List ℕ) (left : ℕ) : Type 0 where
  pub sound : BlockSound p g f lo
  pub plan : Planned p lo (block_count p g f lo) w (block_words p g f lo (block_count p g f lo)) pool pool' planned planned' W' left

pub record UnsoundBlock (p : Parameters) (g : Growth) (f : File) (lo page : ℕ) : Type 0 where
  pub is : page ≡ first_unsound_lem p g f lo (block_count p g f lo)
  pub inside : page < lo + block_count p g f lo

pub record CrowdedBlock (p : Parameters) (g : Growth) (f : File) (lo : ℕ) (w : List ℕ) : Type 0 where
  pub sound : BlockSound p g f lo
  pub many : p.pages * p.places < length w + stars_in 0 (block_numbers p f lo (block_count p g f lo))

-- what planning the block with the words w carried in answers and leaves
abbrev pub BlockPlanned : Parameters → Growth → File → ℕ → List ℕ → List ℕ → List ℕ → List ℕ → List ℕ → List ℕ → Block → Type 0
BlockPlanned p g f lo w pool pool' planned planned' W' (block·Planned left) =
    PlannedBlock p g f lo w pool pool' planned planned' W' left
BlockPlanned p g f lo w pool pool' planned planned' W' (block·Unsound page) = UnsoundBlock p g f lo page
BlockPlanned p g f lo w pool pool' planned planned' W' Crowded = CrowdedBlock p g f lo w

abbrev pub PlansBlock : Geometry → File → ℕ → ℕ → Lent → Lent → Lent → Block → Type 0
PlansBlock g f lo incoming pool waiting planned r =
    BlockPlanned g.parameters g.growth f lo (take incoming waiting.entry.now) pool.entry.now pool.exit.now
    planned.entry.now planned.exit.now waiting.exit.now r
