-- What the code is said by and no promise to a caller cites.
use Rattle.std.specs.Prelude.{ℕ, ◌*◌, Bool, true, cond, ◌&&◌, List, [], ◌∷◌, ltb, eqb, take, drop}
use Rattle.buffers.specs.Lists.{padded}
use Rattle.pages.specs.declared.page.Page.{Page}
use Rattle.pages.specs.declared.page.Place.{Place}
use Rattle.pages.specs.Page.{part, place_of, held_at, empties}

-- the items of `count` pages from page lo
abbrev pub stretch : ℕ → ℕ → ℕ → List ℕ → List ℕ
stretch places lo count l = take (count * places) (drop (lo * places) l)

-- "one value of 32 places, unused ones empty"; 0 marks an empty place, whose word and owner are 0
abbrev pub filled : List ℕ → List ℕ
filled l = padded 32 l

-- a page of the lent numbers, words and owners as one value
abbrev pub page_at : ℕ → ℕ → List ℕ → List ℕ → List ℕ → Page
page_at places page ns ws os =
    record { numbers = filled (part places page ns); words = filled (part places page ws); owners = filled (part places page os) }

-- what the search of k answers: that place, "besides whether it is held"
abbrev pub place_in : ℕ → List ℕ → Place
place_in k ns = record { at = place_of k ns; held = held_at k ns }

-- numbers above `low` that rise strictly
unfoldable pub rising : ℕ → List ℕ → Bool
rising low [] = true
rising low (n ∷ ns) = ltb low n && rising n ns

-- "its numbers rise strictly ... and precede the empty places": numbers above `low`, then empty places
unfoldable pub orderly_numbers : ℕ → List ℕ → Bool
orderly_numbers low [] = true
orderly_numbers low (n ∷ ns) = cond (eqb n 0) (empties ns) (ltb low n && orderly_numbers n ns)
