-- What the code is said by and no promise to a caller cites.
use Rattle.std.specs.Prelude.{true, cond, List, [], ◌∷◌, ◌++◌, map, ℕ, ◌+◌, ◌-◌, ◌<◌, ltb, length, get_or, ◌≡◌}
use Prim.Native.String.{String}
use Rattle.pages.specs.Position.{valid_number, valid_word}
use Rattle.fits_table.specs.Header.{blanks, card, primary, table_first, table_last, front, behind}
use Rattle.fits_table.specs.Items.{held_items}
use Rattle.fits_table.specs.Order.{sort_by}

unfoldable pub template : List ℕ
template = front ++ (blanks 20 ++ behind)

-- the code's table of cards, and the card of it that stands at one of the 72 places for a card
unfoldable pub card_table : List (List ℕ)
card_table = each (primary) (each table_first (card "NAXIS2  = " ∷ each table_last (blanks 80 ∷ [])))
  where
    each : List String → List (List ℕ) → List (List ℕ)
    each [] l = l
    each (s ∷ r) l = card s ∷ each r l

unfoldable pub slot_card_lem : ℕ → ℕ
slot_card_lem slot = cond (ltb slot 5) slot (cond (ltb slot 36) 17 (cond (ltb slot 48) (slot - 31) 17))

-- the number and the word that an item names, and those of the items that hold a number, in rising order of number
abbrev pub row_of : List ℕ → List ℕ → ℕ → ℕ × ℕ
row_of ns ws x = (get_or ns x 0, get_or ws x 0)

unfoldable pub rows_in : List ℕ → List ℕ → List (ℕ × ℕ)
rows_in ns ws = map (row_of ns ws) (sort_by (λ (x : ℕ). get_or ns x 0) (held_items 0 ns))

-- the words of items that hold a number are valid
abbrev pub ValidWords : List ℕ → List ℕ → List ℕ → Type 0
ValidWords ns ws items = (j : ℕ) → j < length items → valid_word (get_or ws (get_or items j 0) 0) ≡ true

-- rows that a file's stars can be: numbers above `last` that rise, in range, and valid words
abbrev pub RowsUp : ℕ → List (ℕ × ℕ) → Type 0
RowsUp last [] = Unit {0}
RowsUp last (r ∷ rs) = (last < r.0) × ((valid_number r.0 ≡ true) × ((valid_word r.1 ≡ true) × RowsUp r.0 rs))
