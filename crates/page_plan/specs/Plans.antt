-- The plan of a stretch of pages, over the words of its waiting stars. Assumes nothing.
use Rattle.std.specs.Prelude.{◌≡◌, Bool, true, cond, List, [], ◌∷◌, ◌++◌, map, ℕ, zero, suc, ◌+◌, ◌-◌, ◌/◌, ◌%◌, ◌*◌, ◌^◌, ◌≤◌, ◌<◌, eqb, leb, length, get_or, take, drop}
use Rattle.std.proofs.Math.Seq.{slice}
use Rattle.pages.specs.Shape.{stretch}
use Rattle.hashing.specs.declared.Parameters.{Parameters}
use Rattle.hashing.specs.Limits.{valid_parameters}
use Rattle.placement.specs.Rule.{Star, Hash, Contents, separators, star_with}
use Rattle.placement.specs.File.{column, written}
use Rattle.placement.specs.Lent.{Lent, Shown}
use Rattle.page_separator.specs.Lists.{all, all_below}
use Rattle.page_separator.specs.Words.{home_of, number_in, source_of}
use Rattle.page_plan.specs.Gather.{group, grouped, stretch_words, stars_in}
use Rattle.page_separator.specs.Probes.{homes_up_to, staying_words, passing_words, words_separator}
use Rattle.page_plan.specs.Settle.{slots_of}
use Rattle.page_plan.specs.declared.layout.Progress.{Progress}

-- the star that a word's low part stands for: its number, and its source in place of position word and owner
unfoldable pub star_of : ℕ → Star
star_of low = star_with (low / 2 ^ 16) (low % 2 ^ 16) 0

-- the rule's waiting list, of the stars whose words wait in the pool
unfoldable pub waits : List ℕ → List Star
waits l = map star_of (slots_of l)

-- the source in slot i of a page that keeps so many, 0 for an empty place
unfoldable pub slot_source : List ℕ → ℕ → ℕ → ℕ
slot_source slots kept i = cond (leb kept i) 0 (source_of (get_or slots i 0))

-- every word carries the home of its number
unfoldable pub homed : Hash → List ℕ → Bool
homed H l = all (λ w. eqb (H.home (number_in w)) (home_of w)) l

-- what settling leaves on page p of the words that probe it
unfoldable pub settled : Parameters → ℕ → List ℕ → Contents
settled q p l =
    record { separator = words_separator q p l; stars = waits (staying_words q p (words_separator q p l) l) }

-- what it carries on
unfoldable pub carried_on_lem : Parameters → ℕ → List ℕ → List ℕ
carried_on_lem q p l = passing_words q p (words_separator q p l) l

-- what n pages from lo + v get: page lo + v is probed by the words w carried on to it and its own group of the stretch's words l
unfoldable pub plans : Parameters → ℕ → ℕ → ℕ → List ℕ → List ℕ → List Contents
plans q lo v zero w l = []
plans q lo v (suc n) w l =
    settled q (lo + v) (w ++ group lo v l)
    ∷ plans q lo (suc v) n (carried_on_lem q (lo + v) (w ++ group lo v l)) l

-- what is carried past them
unfoldable pub remains : Parameters → ℕ → ℕ → ℕ → List ℕ → List ℕ → List ℕ
remains q lo v zero w l = w
remains q lo v (suc n) w l = remains q lo (suc v) n (carried_on_lem q (lo + v) (w ++ group lo v l)) l

-- What planning page p leaves of the lists: the words l that probed it stand in W from some place up to `reach`.
pub record PagePlanned (q : Parameters) (p : ℕ) (l : List ℕ) (reach : ℕ) (W W' pool pool' planned planned' : List ℕ) (r : ℕ) : Type 0 where
  pub sources : pool' ≡ written (p * q.places) (column q.places (λ (s : Star). s.payload.word) (settled q p l ∷ [])) pool
  pub separator : planned' ≡ written p (separators (settled q p l ∷ [])) planned
  pub order : r ≤ reach
  pub passed : slice r reach W' ≡ carried_on_lem q p l
  pub behind : drop reach W' ≡ drop reach W

abbrev pub PlansPage : Parameters → ℕ → ℕ → ℕ → Lent → Lent → Lent → ℕ → Type 0
PlansPage q p from reach waiting pool planned r =
    PagePlanned q p (slice from reach waiting.entry.now) reach waiting.entry.now waiting.exit.now pool.entry.now pool.exit.now
    planned.entry.now planned.exit.now r

-- What planning `count` pages from page lo needs of the lists, the star k left out: items of numbers and of homes in the stretch or below it,
-- room for all words, and those carried in homed at page lo or lower.
pub record Plannable (q : Parameters) (lo count k carried : ℕ) (numbers pool W planned : List ℕ) : Type 0 where
  pub valid : valid_parameters q ≡ true
  pub some : 0 < count
  pub pages : lo + count ≤ 1024
  pub of_planned : lo + count ≤ length planned
  pub of_numbers : (lo + count) * q.places ≤ length numbers
  pub of_pool : (lo + count) * q.places ≤ length pool
  pub numbered : all_below (2 ^ 31) (stretch q.places lo count numbers) ≡ true
  pub within : all_below (lo + count) (stretch q.places lo count pool) ≡ true
  pub room : carried + stars_in k (stretch q.places lo count numbers) ≤ length W
  pub few : length W ≤ 32768
  pub near : homes_up_to lo (take carried W) ≡ true

-- where group v ends and group v + 1 starts
abbrev pub end_of : ℕ → ℕ → List ℕ → ℕ → ℕ
end_of carried lo l v = carried + length (grouped lo 0 v l)

-- the waiting list as gathering leaves it: the words carried in, then the stretch's words l in groups
pub record Started (lo count carried : ℕ) (l W ends : List ℕ) : Type 0 where
  pub room : carried + length l ≤ length W
  pub words : take (carried + length l) W ≡ take carried W ++ grouped lo 0 count l
  pub ended : (v : ℕ) → v < count → get_or ends v 0 ≡ end_of carried lo l (suc v)

-- What settling `count` pages from page lo needs: the words that stand from `carried` up to `end` are grouped, those before them homed at
-- page lo or lower.
pub record Settleable (q : Parameters) (lo count carried end : ℕ) (pool W planned ends : List ℕ) : Type 0 where
  pub valid : valid_parameters q ≡ true
  pub pages : lo + count ≤ 1024
  pub of_planned : lo + count ≤ length planned
  pub of_pool : (lo + count) * q.places ≤ length pool
  pub of_ends : count ≤ length ends
  pub few : length W ≤ 32768
  pub order : carried ≤ end
  pub inside : end ≤ length W
  pub grouped_are : Started lo count carried (slice carried end W) W ends
  pub near : homes_up_to lo (take carried W) ≡ true

-- with v pages planned: what waits stands from `from` up to the end of group v - 1, and behind that the list is as it was
pub record Settling (q : Parameters) (lo count carried : ℕ) (l W pool planned : List ℕ) (pool' W' planned' : List ℕ) (from v : ℕ) : Type 0 where
  pub upto : v ≤ count
  pub start : from ≤ end_of carried lo l v
  pub waiting : slice from (end_of carried lo l v) W' ≡ remains q lo 0 v (take carried W) l
  pub ahead : drop (end_of carried lo l v) W' ≡ drop (end_of carried lo l v) W
  pub sources : pool' ≡ written (lo * q.places) (column q.places (λ (s : Star). s.payload.word) (plans q lo 0 v (take carried W) l)) pool
  pub planned_are : planned' ≡ written lo (separators (plans q lo 0 v (take carried W) l)) planned
  pub long_pool : length pool' ≡ length pool
  pub long_waiting : length W' ≡ length W
  pub long_planned : length planned' ≡ length planned

-- some of the pages are settled, of lists that were as settling needs them
pub record PartSettled (q : Parameters) (lo count end : ℕ) (ends pool' W' planned' : List ℕ) (done : Progress) : Type 0 where
  pub carried : ℕ
  pub waiting : List ℕ
  pub pool : List ℕ
  pub planned : List ℕ
  pub settleable : Settleable q lo count carried end pool waiting planned ends
  pub settling : Settling q lo count carried (slice carried end waiting) waiting pool planned pool' W' planned' done.from done.pages

-- .. and then more of them, of the same lists
abbrev pub Continues : Parameters → ℕ → ℕ → ℕ → List ℕ → Lent → Lent → Lent → Progress → Progress → Type 0
Continues q lo count end ends pool waiting planned done r =
    (carried : ℕ) (P W S : List ℕ) → Settleable q lo count carried end P W S ends
    → Settling q lo count carried (slice carried end W) W P S pool.entry.now waiting.entry.now planned.entry.now done.from done.pages
    → Settling q lo count carried (slice carried end W) W P S pool.exit.now waiting.exit.now planned.exit.now r.from r.pages

-- all pages are settled, or more words are left than the pages ahead have places and `spare` more
abbrev pub Ended : Parameters → ℕ → ℕ → ℕ → Progress → Type 0
Ended q count end spare r = r.pages < count → spare + (count - r.pages) * q.places < end - r.from

-- What planning `count` pages from page lo leaves, of the words w carried in and the stretch's words l: the source of each place's star in
-- the pool, the new separators, and at the front of W' the r words that are carried past the stretch.
pub record Planned (q : Parameters) (lo count : ℕ) (w l pool pool' planned planned' W' : List ℕ) (r : ℕ) : Type 0 where
  pub sources : pool' ≡ written (lo * q.places) (column q.places (λ (s : Star). s.payload.word) (plans q lo 0 count w l)) pool
  pub separators_are : planned' ≡ written lo (separators (plans q lo 0 count w l)) planned
  pub passed : take r W' ≡ remains q lo 0 count w l
  pub counted : r ≡ length (remains q lo 0 count w l)

-- the words carried in stand at the front of `waiting`, the homes of the items in the pool; the star k is left out
abbrev pub PlansStretch : Parameters → ℕ → ℕ → ℕ → ℕ → Shown → Lent → Lent → Lent → ℕ → Type 0
PlansStretch q lo count k carried numbers pool waiting planned r =
    Planned q lo count (take carried waiting.entry.now)
    (stretch_words q.places lo count k numbers.entry.now pool.entry.now) pool.entry.now pool.exit.now planned.entry.now
    planned.exit.now waiting.exit.now r

-- What settling the words w carried in and l in groups leaves in W' from r up to `end`: at most `spare`, and then it is all that is carried past
-- the planned stretch; or more than `spare` are.
pub record StretchSettled (q : Parameters) (lo count end spare : ℕ) (w l pool pool' planned planned' W' : List ℕ) (r : ℕ) : Type 0 where
  pub inside : r ≤ end
  pub plan : end - r ≤ spare → Planned q lo count w l pool pool' planned planned' (slice r end W') (end - r)
  pub past : spare < end - r → spare < length (remains q lo 0 count w l)

abbrev pub SettlesPages : Parameters → ℕ → ℕ → ℕ → ℕ → ℕ → Lent → Lent → Lent → ℕ → Type 0
SettlesPages q lo count carried end spare pool waiting planned r =
    StretchSettled q lo count end spare (take carried waiting.entry.now) (slice carried end waiting.entry.now) pool.entry.now pool.exit.now
    planned.entry.now planned.exit.now waiting.exit.now r

-- What placing all pages of a file leaves, of the words l that stand in groups: whether each of them finds a place, and then the plan.
pub record AllPlaced (q : Parameters) (l pool pool' planned planned' W' : List ℕ) (r : Bool) : Type 0 where
  pub fits : r ≡ eqb (length (remains q 0 0 q.pages [] l)) 0
  pub plan : r ≡ true → Planned q 0 q.pages [] l pool pool' planned planned' W' 0

abbrev pub PlacesAll : Parameters → ℕ → Lent → Lent → Lent → Bool → Type 0
PlacesAll q end pool waiting planned r =
    AllPlaced q (take end waiting.entry.now) pool.entry.now pool.exit.now planned.entry.now planned.exit.now
    waiting.exit.now r
