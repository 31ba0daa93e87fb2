-- What a growth and a shrinking make of sound pages: document 01, "The cut" and "Where each refusal is met"; document 02 (i).
use Rattle.std.specs.Prelude.{◌≡◌, Bool, true, false, cond, List, ℕ, ◌*◌, ◌≤◌, ◌<◌, ltb, length, get_or}
use Rattle.hashing.specs.declared.Parameters.{Parameters}
use Rattle.hashing.specs.declared.Growth.{Growth}
use Rattle.hashing.specs.Geometry.{page_count, highest, grown, is_ungrown, shrunk}
use Rattle.placement.specs.Rule.{pages, left}
use Rattle.placement.specs.File.{File, replaced}
use Rattle.placement.specs.Hash.{hash_of}
use Rattle.placement.specs.Shape.{home_in, homes_of}
use Rattle.placement.specs.Lent.{Lent}
use Rattle.reach.specs.Reach.{is_empty, first_unsound_lem, all_stars}
use Rattle.page_plan.specs.Gather.{stretch_words}
use Rattle.page_plan.specs.Plans.{AllPlaced}
use Rattle.page_plan.specs.declared.outcome.Outcome.{Outcome}
use Rattle.page_plan.specs.declared.outcome.Outcome.TheVariants.{On, Unsound, Overflows}

-- the next growth state, or the one before the latest growth
abbrev pub state_after : Bool → Parameters → Growth → Growth
state_after back p g = cond back (shrunk p g) (grown p g)

-- there is such a state
abbrev pub Movable : Bool → Parameters → Growth → Type 0
Movable true p g = is_ungrown g ≡ false
Movable false p g = page_count p g < p.pages

-- one thing if a page is unsound, another if the rule under the growth state `next` carries a star past page M−1, a third if it does not
abbrev pub by_growth : {A : Type 0} → Parameters → Growth → File → Growth → A → A → A → A
by_growth p g f next unsound overflows grows =
    cond (ltb (first_unsound_lem p g f 0 p.pages) p.pages)
    unsound
    (cond (is_empty (left (hash_of p next) 0 p.pages (all_stars p f))) grows overflows)

unfoldable pub growth_answer : Parameters → Growth → File → Growth → ℕ → Outcome
growth_answer p g f next page = by_growth p g f next (Unsound (first_unsound_lem p g f 0 p.pages)) Overflows (On page)

-- "The rule is then applied .. by growth to all pages under the new (e, x)"; shrinking "places all stars by the cut under it"
unfoldable pub growth_file : Parameters → Growth → File → Growth → File
growth_file p g f next =
    by_growth p g f next f f (replaced p.places f 0 (pages (hash_of p next) 0 p.pages (all_stars p f)))

-- a growth in place leaves what the growth to `next` leaves, and it is always accepted; or nothing is changed, the pool neither
pub record GrowsInPlace (p : Parameters) (g next : Growth) (f f' : File) (pool pool' : List ℕ) (r : Bool) : Type 0 where
  pub accepts : r ≡ true → (page : ℕ) → On page ≡ growth_answer p g f next page
  pub file : r ≡ true → f' ≡ growth_file p g f next
  pub kept : r ≡ false → f' ≡ f
  pub pool_kept : r ≡ false → pool' ≡ pool

-- the first item whose home may be another one
abbrev pub first_moved_lem : Bool → Parameters → Growth → ℕ
first_moved_lem back p g = cond back (highest p g * p.places) 0

-- the items before it keep their homes
pub record HomesStay (back : Bool) (p : Parameters) (g : Growth) (ns : List ℕ) : Type 0 where
  pub inside : first_moved_lem back p g ≤ length ns
  pub same : (i : ℕ) → i < first_moved_lem back p g → home_in p (state_after back p g) (get_or ns i 0) ≡ home_in p g (get_or ns i 0)

-- all pages planned over the stars of these numbers, homed under the growth state `next`
abbrev pub PlansAll : Parameters → Growth → List ℕ → Lent → Lent → Lent → Bool → Type 0
PlansAll p next ns pool waiting planned r =
    AllPlaced p (stretch_words p.places 0 p.pages 0 ns (homes_of p next ns)) (homes_of p next ns) pool.exit.now planned.entry.now
    planned.exit.now waiting.exit.now r
