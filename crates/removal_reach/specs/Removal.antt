-- What a removal makes of sound pages: document 01, "The cut" and "Where each refusal is met".
use Rattle.std.specs.Prelude.{◌≡◌, true, cond, List, ℕ, ◌+◌, ltb}
use Rattle.hashing.specs.declared.Parameters.{Parameters}
use Rattle.hashing.specs.declared.Growth.{Growth}
use Rattle.hashing.specs.declared.Geometry.{Geometry}
use Rattle.pages.specs.Page.{part, held_at, place_of}
use Rattle.pages.specs.Position.{valid_number}
use Rattle.placement.specs.Rule.{pages, without, star_with}
use Rattle.placement.specs.File.{File, gathered, replaced}
use Rattle.placement.specs.Hash.{hash_of, sound_at, named_page_lem}
use Rattle.placement.specs.Shape.{home_under}
use Rattle.placement.specs.Ready.{Ready}
use Rattle.reach.specs.Reach.{pages_to, removal_end, first_unsound_lem}
use Rattle.page_plan.specs.declared.outcome.Outcome.{Outcome}
use Rattle.page_plan.specs.declared.outcome.Outcome.TheVariants.{On, Unsound}
use Rattle.decision.specs.declared.chosen.Decision.{Decision}
use Rattle.decision.specs.Carried.{outcome_of_lem, carried_out, Feasible}
use Rattle.removal_reach.specs.declared.star.HeldStar.{HeldStar}

-- the page that the separators name for k is sound and holds it
pub record Held (p : Parameters) (g : Growth) (f : File) (k : ℕ) : Type 0 where
  pub sound : sound_at p g f (named_page_lem p g f.separators k) ≡ true
  pub present : held_at k (part p.places (named_page_lem p g f.separators k) f.numbers) ≡ true

-- a star that the file holds is to be removed: `page` is the one that the separators name for it, and `place` where it stands there
pub record Removes (g : Geometry) (t : List ℕ) (f : File) (s : HeldStar) : Type 0 where
  pub ready : Ready g t f
  pub number : valid_number s.number ≡ true
  pub held : Held g.parameters g.growth f s.number
  pub homed : s.home ≡ home_under g s.number
  pub here : s.page ≡ named_page_lem g.parameters g.growth f.separators s.number
  pub there : s.place ≡ place_of s.number (part g.parameters.places s.page f.numbers)

-- "The reach of a removal": its first page, how many pages it has, and the first unsound one of them
abbrev pub removal_start : Parameters → Growth → ℕ → ℕ
removal_start p g k = (hash_of p g).home k

abbrev pub removal_count : Parameters → Growth → File → ℕ → ℕ
removal_count p g f k = pages_to (removal_start p g k) (removal_end (hash_of p g) p.pages f (removal_start p g k))

abbrev pub removal_unsound : Parameters → Growth → File → ℕ → ℕ
removal_unsound p g f k = first_unsound_lem p g f (removal_start p g k) (removal_count p g f k)

-- one thing if a page of the reach is unsound, another if not
abbrev pub by_removal_reach : {A : Type 0} → Parameters → Growth → File → ℕ → A → A → A
by_removal_reach p g f k unsound removes = cond (ltb (removal_unsound p g f k) (removal_start p g k + removal_count p g f k)) unsound removes

-- accepted, the answer is the page given
unfoldable pub removal_answer : Parameters → Growth → File → ℕ → ℕ → Outcome
removal_answer p g f k page = by_removal_reach p g f k (Unsound (removal_unsound p g f k)) (On page)

-- "The rule is then applied to the reach .. Other pages stay."
unfoldable pub removal_file : Parameters → Growth → File → ℕ → File
removal_file p g f k =
    by_removal_reach p g f k f
    (replaced p.places f (removal_start p g k)
    (pages (hash_of p g) (removal_start p g k) (removal_count p g f k) (without k (gathered p.places f (removal_start p g k) (removal_count p g f k)))))

-- a decision on the removal: it answers as the removal, and carried out it leaves the removal's file
pub record DecidesRemoval (p : Parameters) (g : Growth) (f : File) (k page : ℕ) (pool planned : List ℕ) (d : Decision) : Type 0 where
  pub answers : outcome_of_lem d ≡ removal_answer p g f k page
  pub files : carried_out p.places (star_with 0 0 0) pool planned f d ≡ removal_file p g f k
  pub feasible : Feasible p f 0 planned d
