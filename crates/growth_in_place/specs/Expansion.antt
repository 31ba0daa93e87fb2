-- Growth by one page where the new page has not overflowed and has room: the stars whose home becomes that page are moved there, and all
-- pages are then sound under the next growth state, with the separators that they had.
use Rattle.std.specs.Prelude.{◌≡◌, Bool, true, false, not, cond, ◌&&◌, ◌||◌, ◌⊎◌, ℕ, zero, suc, ◌+◌, ◌-◌, ◌*◌, ◌≤◌, ◌<◌, eqb, length, drop, get_or}
use mathlib.Core.List.{List, map, Memᴰ}
use Rattle.hashing.specs.declared.Parameters.{Parameters}
use Rattle.hashing.specs.declared.Growth.{Growth}
use Rattle.hashing.specs.Geometry.{multiplier_of, page_count, grown, expands}
use Rattle.generator.specs.Generator.{top_of_lem}
use Rattle.hashing.specs.Home.{home}
use Rattle.buffers.specs.Lists.{padded}
use Rattle.pages.specs.Page.{part}
use Rattle.pages.specs.Position.{valid_word}
use Rattle.placement.specs.Rule.{Star, filter}
use Rattle.placement.specs.File.{File, orderly}
use Rattle.placement.specs.Shape.{Sized}
use Rattle.placement.specs.Hash.{sound_at}
use Rattle.placement.specs.Shape.{homes_of}
use Rattle.placement.specs.Lent.{Lent, Shown, held}
use Rattle.reach.specs.Reach.{first_unsound_lem, all_stars}
use Rattle.page_edit.specs.Shift.{stars_on, number_at, Ordered}

-- the number's home becomes the new page, n·G + x
unfoldable pub joins : Parameters → Growth → ℕ → Bool
joins p g k = eqb (home (multiplier_of p) p (grown p g) k) (page_count p g)

-- the same of a place's number: not of an empty place
unfoldable pub joins_at : Parameters → Growth → ℕ → Bool
joins_at p g n = not (eqb n 0) && joins p g n

-- how many of a page's numbers do, and how many of the pages below q
unfoldable pub joiners_in : Parameters → Growth → List ℕ → ℕ
joiners_in p g ns = length (filter (joins_at p g) ns)

unfoldable pub joiners_below : Parameters → Growth → List ℕ → ℕ → ℕ
joiners_below p g ns zero = 0
joiners_below p g ns (suc q) = joiners_below p g ns q + joiners_in p g (part p.places q ns)

-- the stars of a page, by the lent lists
abbrev pub page_stars : Parameters → List ℕ → List ℕ → List ℕ → ℕ → List Star
page_stars p ns ws os q = stars_on p.places q ns ws os

-- no star of this list joins the new page
abbrev pub NoneJoins : Parameters → Growth → List Star → Type 0
NoneJoins p g l = (s : Star) → Memᴰ s l → joins p g s.number ≡ false

-- a star of the expanded group's pages may have passed on to page q: from the page below, if it is one of the group or such a page itself,
-- and its separator is not 2^k − 1
unfoldable pub runs_to : Parameters → Growth → List ℕ → ℕ → Bool
runs_to p g separators zero = false
runs_to p g separators (suc q) = (runs_to p g separators q || expands p g q) && not (eqb (get_or separators q 0) (top_of_lem p.bits))

abbrev pub is_near : Parameters → Growth → List ℕ → ℕ → Bool
is_near p g separators q = runs_to p g separators q || expands p g q

-- no star of the other pages joins the new page
abbrev pub NoneAway : Parameters → Growth → List ℕ → List ℕ → List ℕ → List ℕ → Type 0
NoneAway p g separators ns ws os = (q : ℕ) → q < page_count p g → is_near p g separators q ≡ false → NoneJoins p g (page_stars p ns ws os q)

abbrev pub NoneCounted : Parameters → Growth → List ℕ → List ℕ → Type 0
NoneCounted p g separators ns = (q : ℕ) → q < page_count p g → is_near p g separators q ≡ false → joiners_in p g (part p.places q ns) ≡ 0

-- a page has room for so many more: none, or the first of so many last places is empty
abbrev pub RoomFor : ℕ → ℕ → ℕ → List ℕ → Type 0
RoomFor places page count ns = (count ≡ 0) ⊎ ((count ≤ places) × (number_at places page (places - count) ns ≡ 0))

-- the new page has not overflowed, and has room for the stars of the pages below it that join it
pub record Spacious (p : Parameters) (g : Growth) (separators ns : List ℕ) : Type 0 where
  pub top : get_or separators (page_count p g) 0 ≡ top_of_lem p.bits
  pub room : RoomFor p.places (page_count p g) (joiners_below p g ns (page_count p g)) ns

-- a page in order, whose last place is empty
pub record Vacancy (places page : ℕ) (ns ws os : List ℕ) : Type 0 where
  pub ordered : Ordered places page ns ws os
  pub some : 0 < places
  pub empty : number_at places page (places - 1) ns ≡ 0

-- what the pool has for a star of page q while stars are moved: its home, on the new page that under the next growth state
unfoldable pub home_on : Parameters → Growth → ℕ → Star → ℕ
home_on p g q s =
    cond (eqb q (page_count p g))
    (home (multiplier_of p) p (grown p g) s.number)
    (home (multiplier_of p) p g s.number)

-- while stars are moved: pages in order, no number on two of them, room on the new page for those still below it, none of these above it
pub record Moving (p : Parameters) (g : Growth) (ns ws os hs : List ℕ) : Type 0 where
  pub of_numbers : length ns ≡ p.pages * p.places
  pub of_words_lem : length ws ≡ p.pages * p.places
  pub of_owners : length os ≡ p.pages * p.places
  pub of_homes : length hs ≡ p.pages * p.places
  pub in_order_lem : (q : ℕ) → q < p.pages → orderly valid_word 0 (part p.places q ns) (part p.places q ws) (part p.places q os) ≡ true
  pub low : (q : ℕ) → q < p.pages → (s : Star) → Memᴰ s (page_stars p ns ws os q) → joins p g s.number ≡ true → q ≤ page_count p g
  pub once :
      (q r : ℕ) → q < p.pages → r < p.pages → (s t : Star) → Memᴰ s (page_stars p ns ws os q) → Memᴰ t (page_stars p ns ws os r)
      → s.number ≡ t.number → q ≡ r
  pub few : length (page_stars p ns ws os (page_count p g)) + joiners_below p g ns (page_count p g) ≤ p.places
  pub homes : (q : ℕ) → q < p.pages → part p.places q hs ≡ padded p.places (map (home_on p g q) (page_stars p ns ws os q))

-- the stars after are those before, each on its page or, if it joins the new page, there
pub record KeptStars (p : Parameters) (g : Growth) (ns ws os ns' ws' os' : List ℕ) : Type 0 where
  pub back :
      (q : ℕ) → q < p.pages → (s : Star) → Memᴰ s (page_stars p ns' ws' os' q)
      → Memᴰ s (page_stars p ns ws os q)
      ⊎ ((q ≡ page_count p g) × (joins p g s.number ≡ true) × ((r : ℕ) × (r < p.pages) × Memᴰ s (page_stars p ns ws os r)))
  pub forth :
      (q : ℕ) → q < p.pages → (s : Star) → Memᴰ s (page_stars p ns ws os q)
      → Memᴰ s (page_stars p ns' ws' os' q) ⊎ ((joins p g s.number ≡ true) × Memᴰ s (page_stars p ns' ws' os' (page_count p g)))

-- what one move, the moves from a page, and those from all pages leave
pub record Stepped (p : Parameters) (g : Growth) (numbers words owners homes : Lent) : Type 0 where
  pub underway : Moving p g numbers.exit.now words.exit.now owners.exit.now homes.exit.now
  pub kept :
      KeptStars p g numbers.entry.now words.entry.now owners.entry.now numbers.exit.now words.exit.now owners.exit.now

-- .. and the stars from that place on are those that were behind it
abbrev pub ClosedUp : Parameters → ℕ → ℕ → Lent → Lent → Lent → Type 0
ClosedUp p page place numbers words owners =
    drop place (page_stars p numbers.exit.now words.exit.now owners.exit.now page)
    ≡ drop (suc place) (page_stars p numbers.entry.now words.entry.now owners.entry.now page)

-- .. and no star of the pages below q is left to move
abbrev pub SettledBelow : Parameters → Growth → ℕ → List ℕ → List ℕ → List ℕ → Type 0
SettledBelow p g q ns ws os = (r : ℕ) → r < q → NoneJoins p g (page_stars p ns ws os r)

-- .. or nothing
pub record Unchanged (numbers words owners homes : Lent) : Type 0 where
  pub of_numbers : numbers.exit.now ≡ numbers.entry.now
  pub of_words_lem : words.exit.now ≡ words.entry.now
  pub of_owners : owners.exit.now ≡ owners.entry.now
  pub of_homes : homes.exit.now ≡ homes.entry.now

-- all pages are sound under the next growth state, and hold the stars that they held
pub record Moved (p : Parameters) (g : Growth) (f f' : File) (hs : List ℕ) : Type 0 where
  pub sized : Sized p.places p.pages f'
  pub sound : (q : ℕ) → q < p.pages → sound_at p (grown p g) f' q ≡ true
  pub all_sound_lem : first_unsound_lem p (grown p g) f' 0 p.pages ≡ p.pages
  pub stars : all_stars p f' ≡ all_stars p f
  pub homes : hs ≡ homes_of p (grown p g) f'.numbers

pub record Expanded (p : Parameters) (g : Growth) (separators : Shown) (numbers words owners homes : Lent) (r : Bool) : Type 0 where
  pub moved :
      r ≡ true
      → Moved p g (held separators.entry.now numbers.entry.now words.entry.now owners.entry.now) (held separators.entry.now numbers.exit.now words.exit.now owners.exit.now) homes.exit.now
  pub untouched : r ≡ false → Unchanged numbers words owners homes
