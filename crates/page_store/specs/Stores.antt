-- The stores of a call: which pages, in which order, and what the columns are after some of them. Document 02 (xii).
-- Assumes nothing.
use Rattle.std.specs.Prelude.{Bool, not, cond, ◌&&◌, List, [], ◌∷◌, ℕ, zero, suc, ◌+◌, ◌-◌, ◌*◌, leb, length}
use Rattle.buffers.specs.Lists.{written, alike}
use Rattle.pages.specs.Page.{part}
use Rattle.page_store.specs.Columns.{Columns}

-- "those whose places change"
unfoldable pub columns_change : ℕ → Columns → Columns → ℕ → Bool
columns_change places old new page =
    not (alike (part places page old.numbers) (part places page new.numbers)
    && (alike (part places page old.words) (part places page new.words)
    && alike (part places page old.owners) (part places page new.owners)))

-- "removals lowest first": of the n pages from `page` on, those that change
unfoldable pub lowest_first : (ℕ → Bool) → ℕ → ℕ → List ℕ
lowest_first changes page zero = []
lowest_first changes page (suc n) = cond (changes page) (page ∷ lowest_first changes (suc page) n) (lowest_first changes (suc page) n)

-- "[entries] highest first"
unfoldable pub highest_first : (ℕ → Bool) → ℕ → ℕ → List ℕ
highest_first changes page zero = []
highest_first changes page (suc n) = cond (changes (page + n)) ((page + n) ∷ highest_first changes page n) (highest_first changes page n)

-- the stores of the call, in their order
unfoldable pub changed_pages : Bool → ℕ → ℕ → ℕ → Columns → Columns → List ℕ
changed_pages upward places lo count old new =
    cond upward (lowest_first (columns_change places old new) lo count) (highest_first (columns_change places old new) lo count)

-- "a store for every changed page, or more"
unfoldable pub enough : ℕ → List ℕ → Bool
enough limit stores = leb (length stores) limit

-- "each page whole": these pages of a column, one after the other, as the new column has them
unfoldable pub column_stored : ℕ → List ℕ → List ℕ → List ℕ → List ℕ
column_stored places new [] old = old
column_stored places new (page ∷ stores) old = column_stored places new stores (written (page * places) (part places page new) old)

-- the page that the loop comes to at this turn
unfoldable pub page_in_turn_lem : Bool → ℕ → ℕ → ℕ → ℕ
page_in_turn_lem upward lo count turn = cond upward (lo + turn) (lo + (count - suc turn))
