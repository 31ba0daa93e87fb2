-- When growth is due: document 01, "The cut", over the pages in use of document 02, (iii).
use Rattle.std.specs.Prelude.{Bool, cond, List, [], ◌∷◌, ℕ, zero, suc, ◌+◌, ◌*◌, max, eqb, ltb}
use Rattle.hashing.specs.declared.Parameters.{Parameters}
use Rattle.hashing.specs.declared.Growth.{Growth}
use Rattle.hashing.specs.Geometry.{highest}
use Rattle.pages.specs.Page.{part}

-- the non-zero numbers of a list
unfoldable pub stars : List ℕ → ℕ
stars [] = 0
stars (n ∷ ns) = cond (eqb n 0) (stars ns) (suc (stars ns))

-- of the first n pages, those up to "the last page holding a non-zero number"
unfoldable pub pages_holding : ℕ → List ℕ → ℕ → ℕ
pages_holding places numbers zero = 0
pages_holding places numbers (suc page) =
    cond (eqb (stars (part places page numbers)) 0) (pages_holding places numbers page) (suc page)

-- "to the highest address or the last page holding a non-zero number, whichever is higher"
unfoldable pub pages_in_use : Parameters → Growth → List ℕ → ℕ
pages_in_use p g numbers = max (highest p g + 1) (pages_holding p.places numbers p.pages)

-- "yes exactly if 100·stars exceeds A·b·" a count of pages
unfoldable pub exceeds : Parameters → ℕ → ℕ → Bool
exceeds p pages count = ltb (p.load * p.places * pages) (100 * count)

unfoldable pub is_due : Parameters → Growth → List ℕ → Bool
is_due p g numbers = exceeds p (pages_in_use p g numbers) (stars numbers)
