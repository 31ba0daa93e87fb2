-- A local test for pages that are the rule's: no separator could be one greater. It gives code its shape; what clean means is in placement's File.antt.
use Rattle.std.specs.Prelude.{◌≡◌, Bool, not, cond, ◌&&◌, ◌||◌, List, ℕ, zero, suc, ◌+◌, ◌-◌, ◌*◌, ◌≤◌, ◌<◌, leb, ltb, eqb, length, get_or}
use Rattle.hashing.specs.declared.Parameters.{Parameters}
use Rattle.hashing.specs.declared.Geometry.{Geometry}
use Rattle.generator.specs.Generator.{top_of_lem}
use Rattle.pages.specs.Page.{part}
use Rattle.placement.specs.Rule.{Hash, filter}
use Rattle.placement.specs.Hash.{hash_of}
use Rattle.placement.specs.Shape.{homes_of}
use Rattle.placement.specs.Lent.{Lent}
use Rattle.reach.specs.Reach.{first_such}

-- the number k, of page q, passed page p with its separator as signature
unfoldable pub passed : Hash → List ℕ → ℕ → ℕ → ℕ → Bool
passed H vs p q k = leb (H.home k) p && (ltb p q && eqb (H.signature k p) (get_or vs p 0))

-- it counts on page p: it stands there, or would if the separator were one greater
unfoldable pub counts_on : Hash → List ℕ → ℕ → ℕ → ℕ → Bool
counts_on H vs p q k = eqb q p || passed H vs p q k

-- "0 marks an empty place"
abbrev pub star_number : ℕ → Bool
star_number n = not (eqb n 0)

abbrev pub counted_item : Hash → List ℕ → ℕ → ℕ → ℕ → Bool
counted_item H vs p q n = star_number n && counts_on H vs p q n

-- how many of the numbers ns of page q count on page p
unfoldable pub count_on : Hash → List ℕ → List ℕ → ℕ → ℕ → ℕ
count_on H vs ns p q = length (filter (counted_item H vs p q) (part H.room q ns))

-- how many of the numbers ns of page q passed page p so
unfoldable pub passed_on_lem : Hash → List ℕ → List ℕ → ℕ → ℕ → ℕ
passed_on_lem H vs ns p q = length (filter (λ (n : ℕ). star_number n && passed H vs p q n) (part H.room q ns))

-- how many items are stars
abbrev pub stars_among : List ℕ → ℕ
stars_among l = length (filter star_number l)

-- how many of the numbers ns of page q stand on page p
abbrev pub own_on : Hash → List ℕ → ℕ → ℕ → ℕ
own_on H ns p q = cond (eqb q p) (stars_among (part H.room q ns)) 0

-- how many of the numbers of the n pages from `from` on
unfoldable pub count_from : Hash → List ℕ → List ℕ → ℕ → ℕ → ℕ → ℕ
count_from H vs ns from p zero = zero
count_from H vs ns from p (suc n) = count_from H vs ns from p n + count_on H vs ns p (from + n)

-- a separator v is below top, and with one greater at most room would stay
abbrev pub may_rise : ℕ → ℕ → ℕ → ℕ → Bool
may_rise top room v count = ltb v top && leb count room

-- so it is with page p's, by the stars of the n pages from `from` on
unfoldable pub raisable_from : Hash → ℕ → ℕ → List ℕ → List ℕ → ℕ → Bool
raisable_from H from n vs ns p = may_rise H.top H.room (get_or vs p 0) (count_from H vs ns from p n)

-- by those of M pages
abbrev pub raisable : Hash → ℕ → List ℕ → List ℕ → ℕ → Bool
raisable H M vs ns p = raisable_from H 0 M vs ns p

abbrev pub hash_under : Geometry → Hash
hash_under g = hash_of g.parameters g.growth

-- the first such page of those from `from` up to the one before `stop`, by their own stars; `stop` if there is none
abbrev pub first_raisable_lem : Geometry → List ℕ → List ℕ → ℕ → ℕ → ℕ
first_raisable_lem g vs ns from stop = first_such (raisable_from (hash_under g) from (stop - from) vs ns) from (stop - from)

-- the same by counters
abbrev pub first_rising_lem : Parameters → List ℕ → List ℕ → ℕ → ℕ → ℕ
first_rising_lem q vs counts from stop =
    first_such (λ (p : ℕ). may_rise (top_of_lem q.bits) q.places (get_or vs p 0) (get_or counts p 0)) from (stop - from)

-- the counters from page `from` on are at most so much
abbrev pub Counts : ℕ → ℕ → List ℕ → Type 0
Counts from most l = (length l ≡ 1024) × ((p : ℕ) → from ≤ p → p < 1024 → get_or l p 0 ≤ most)

-- what each of these was, and so much more
pub record Added (from : ℕ) (more : ℕ → ℕ) (entry exit : List ℕ) : Type 0 where
  pub size : length exit ≡ 1024
  pub each : (p : ℕ) → from ≤ p → p < 1024 → get_or exit p 0 ≡ get_or entry p 0 + more p

abbrev pub AddsCounts : ℕ → (ℕ → ℕ) → Lent → Type 0
AddsCounts from more counts = Added from more counts.entry.now counts.exit.now

-- so where the separator is below top, elsewhere not more
pub record AddedBelow (H : Hash) (vs : List ℕ) (more : ℕ → ℕ) (entry exit : List ℕ) : Type 0 where
  pub size : length exit ≡ 1024
  pub most : (p : ℕ) → p < 1024 → get_or exit p 0 ≤ get_or entry p 0 + more p
  pub each : (p : ℕ) → p < 1024 → get_or vs p 0 < H.top → get_or exit p 0 ≡ get_or entry p 0 + more p

abbrev pub AddsBelow : Hash → List ℕ → (ℕ → ℕ) → Lent → Type 0
AddsBelow H vs more counts = AddedBelow H vs more counts.entry.now counts.exit.now

-- the counters from page `from` on tell how many of the numbers of the pages up to the one before `page` count there, if the separator is below top
pub record PassersCounted (H : Hash) (vs ns : List ℕ) (from page : ℕ) (counts : List ℕ) : Type 0 where
  pub size : length counts ≡ 1024
  pub most : (p : ℕ) → from ≤ p → p < 1024 → get_or counts p 0 ≤ count_from H vs ns from p (page - from)
  pub each : (p : ℕ) → from ≤ p → p < 1024 → get_or vs p 0 < H.top → get_or counts p 0 ≡ count_from H vs ns from p (page - from)

-- the separators and numbers of a file, and the homes of the items of the pages from `from` up to the one before `stop`
pub record Homed (g : Geometry) (vs ns hs : List ℕ) (from stop : ℕ) : Type 0 where
  pub separators : length vs ≡ g.parameters.pages
  pub numbers : length ns ≡ g.parameters.pages * g.parameters.places
  pub homes : length hs ≡ g.parameters.pages * g.parameters.places
  pub low : from ≤ stop
  pub high : stop ≤ g.parameters.pages
  pub kept : (q : ℕ) → from ≤ q → q < stop → part g.parameters.places q hs ≡ homes_of g.parameters g.growth (part g.parameters.places q ns)

-- the stars of the items from `first` up to the one before `last` are homed at page `low` or above
abbrev pub HomedFrom : ℕ → List ℕ → List ℕ → ℕ → ℕ → Type 0
HomedFrom low ns hs first last = (j : ℕ) → first ≤ j → j < last → (get_or ns j 0 ≡ 0 → ⊥) → low ≤ get_or hs j 0

-- a table of n entries has what signs the stars of these pages on each page that they passed, by their homes
abbrev pub SignablePassed : ℕ → ℕ → List ℕ → List ℕ → ℕ → ℕ → Type 0
SignablePassed n places ns hs from stop =
    (q i : ℕ) → from ≤ q → q < stop → i < places → (get_or ns (q * places + i) 0 ≡ 0 → ⊥) → 2 * (q - get_or hs (q * places + i) 0) < n
