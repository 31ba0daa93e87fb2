-- A page's items in a lent list, a page as one value, and where a number stands in it.
-- Assumes nothing.
use Rattle.std.specs.Prelude.{ℕ, suc, ◌*◌, Bool, true, cond, ◌&&◌, ◌||◌, List, [], ◌∷◌, leb, ltb, eqb, length, take, drop, get_or}

-- "Place i of page p is item p·b + i": the items of a page in a lent list
unfoldable pub part : ℕ → ℕ → List ℕ → List ℕ
part places page l = take places (drop (page * places) l)

-- the search of k ends at n: an empty place, or a number not below k
abbrev pub stops : ℕ → ℕ → Bool
stops k n = eqb n 0 || leb k n

-- "the first place that is empty or holds a number not below the one sought, or b if there is none", of a page's b numbers: document 02 (ii)
unfoldable pub place_of : ℕ → List ℕ → ℕ
place_of k [] = 0
place_of k (n ∷ ns) = cond (stops k n) 0 (suc (place_of k ns))

-- whether k stands at that place
unfoldable pub held_at : ℕ → List ℕ → Bool
held_at k ns = ltb (place_of k ns) (length ns) && eqb (get_or ns (place_of k ns) 0) k

-- only empty places
unfoldable pub empties : List ℕ → Bool
empties [] = true
empties (n ∷ ns) = eqb n 0 && empties ns
