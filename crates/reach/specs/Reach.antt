-- Which pages a call re-places: document 01, "The cut".
use Rattle.std.specs.Prelude.{Bool, true, false, not, cond, ◌&&◌, ◌||◌, List, [], ◌∷◌, ℕ, zero, suc, ◌-◌, eqb, get_or}
use Rattle.hashing.specs.declared.Parameters.{Parameters}
use Rattle.hashing.specs.declared.Growth.{Growth}
use Rattle.placement.specs.Rule.{Star, Hash, Contents, left, insert}
use Rattle.placement.specs.File.{File, gathered}
use Rattle.placement.specs.Hash.{sound_at}

-- the first number that passes the test, of the n from `from` on; the one past them if there is none
unfoldable pub first_such : (ℕ → Bool) → ℕ → ℕ → ℕ
first_such test from zero = from
first_such test from (suc n) = cond (test from) from (first_such test (suc from) n)

abbrev pub is_empty : List Star → Bool
is_empty [] = true
is_empty (s ∷ w) = false

-- the stars of all pages, by number
abbrev pub all_stars : Parameters → File → List Star
all_stars p f = gathered p.places f 0 p.pages

-- the pages from `from` to `to`
abbrev pub pages_to : ℕ → ℕ → ℕ
pages_to from to = suc (to - from)

-- the page's stored separator is `top`
abbrev pub stored_top : List ℕ → ℕ → ℕ → Bool
stored_top separators top q = eqb (get_or separators q 0) top

-- "the first page whose stored separator is 2^k − 1, or page M−1"
unfoldable pub removal_end : Hash → ℕ → File → ℕ → ℕ
removal_end H m f from = first_such (stored_top f.separators H.top) from (m - 1 - from)

-- the stars of the pages from the new star's home to page `to`, and the new one
unfoldable pub entering : Hash → File → Star → ℕ → List Star
entering H f s to = insert s (gathered H.room f (H.home s.number) (pages_to (H.home s.number) to))

-- the rule, over these pages' stars and the new one, carries nothing on
unfoldable pub enters_within : Hash → File → Star → ℕ → Bool
enters_within H f s to =
    is_empty (left H (H.home s.number) (pages_to (H.home s.number) to) (entering H f s to))

-- "the first page that is M−1 or has that separator, and after which the rule .. carries nothing on; if there is none, it runs to M−1"
unfoldable pub entry_end : Hash → ℕ → File → Star → ℕ
entry_end H m f s =
    first_such
    (λ (q : ℕ). stored_top f.separators H.top q && enters_within H f s q)
    (H.home s.number)
    (m - 1 - H.home s.number)

-- "pages of the reach, or all pages, upward, each as it is reached": the first unsound one of n, the page past them if there is none
unfoldable pub first_unsound_lem : Parameters → Growth → File → ℕ → ℕ → ℕ
first_unsound_lem p g f from n = first_such (λ (q : ℕ). not (sound_at p g f q)) from n

unfoldable pub has_number : ℕ → List Star → Bool
has_number k [] = false
has_number k (s ∷ w) = eqb s.number k || has_number k w

-- the page that holds a number, of pages from `from` on
unfoldable pub holding : ℕ → ℕ → List Contents → ℕ
holding k from [] = from
holding k from (c ∷ cs) = cond (has_number k c.stars) from (holding k (suc from) cs)
