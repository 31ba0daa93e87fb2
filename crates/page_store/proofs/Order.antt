-- The order of the stores, by turns.
use mathlib.Core.Path.{◌≡◌, refl, sym, ap, ◌∙◌}
use mathlib.Core.Bool.{Bool, true, false, cond}
use mathlib.Core.List.{List, [], ◌∷◌}
use Prim.Native.Nat.{ℕ, zero, suc, ◌+◌, ◌-◌, ◌*◌, ◌≤◌, ◌<◌}
use native.Mathlib.Nat.{add-suc, add-zero, zero-add, suc-add}
use native.Mathlib.Omega.{arith}
use lib.ListN.{length, take}
use Rattle.page_store.specs.Columns.{Columns}
use Rattle.page_store.specs.Stores.{columns_change, lowest_first, highest_first, changed_pages, page_in_turn_lem}

-- of n turns from turn i on, the pages that change
unfoldable pub todo : (ℕ → Bool) → (ℕ → ℕ) → ℕ → ℕ → List ℕ
todo changes page i zero = []
todo changes page i (suc n) = cond (changes (page i)) (page i ∷ todo changes page (suc i) n) (todo changes page (suc i) n)

todo-up : (changes : ℕ → Bool) (lo count i n : ℕ) → todo changes (page_in_turn_lem true lo count) i n ≡ lowest_first changes (lo + i) n
unfolding todo lowest_first page_in_turn_lem
todo-up changes lo count i zero = refl
todo-up changes lo count i (suc n) =
    ap (λ (l : List ℕ). cond (changes (lo + i)) ((lo + i) ∷ l) l) (todo-up changes lo count (suc i) n ∙ ap (λ (k : ℕ). lowest_first changes k n) (add-suc lo i))

todo-down : (changes : ℕ → Bool) (lo count i n : ℕ) → i + n ≡ count → todo changes (page_in_turn_lem false lo count) i n ≡ highest_first changes lo n
unfolding todo highest_first page_in_turn_lem
todo-down changes lo count i zero e = refl
todo-down changes lo count i (suc n) e =
    let here : count - suc i ≡ n = omega arith in
    ap (λ (k : ℕ). cond (changes (lo + k)) ((lo + k) ∷ todo changes (page_in_turn_lem false lo count) (suc i) n) (todo changes (page_in_turn_lem false lo count) (suc i) n)) here
    ∙ ap (λ (l : List ℕ). cond (changes (lo + n)) ((lo + n) ∷ l) l) (todo-down changes lo count (suc i) n (omega arith))

pub changed-todo : (upward : Bool) (b lo count : ℕ) (old new : Columns)
    → changed_pages upward b lo count old new ≡ todo (columns_change b old new) (page_in_turn_lem upward lo count) 0 count
unfolding changed_pages
changed-todo true b lo count old new = sym (todo-up (columns_change b old new) lo count 0 count ∙ ap (λ (k : ℕ). lowest_first (columns_change b old new) k count) (add-zero lo))
changed-todo false b lo count old new = sym (todo-down (columns_change b old new) lo count 0 count (zero-add count))

-- each page of the stretch has its one turn
pub turn_inside : (upward : Bool) (lo count j : ℕ) → j < count → (lo ≤ page_in_turn_lem upward lo count j) × (page_in_turn_lem upward lo count j < lo + count)
unfolding page_in_turn_lem
turn_inside true lo count j h = (omega arith, omega arith)
turn_inside false lo count j h = (omega arith, omega arith)

pub turn-apart : (upward : Bool) (lo count i j : ℕ) → i < count → j < count → page_in_turn_lem upward lo count j ≡ page_in_turn_lem upward lo count i → j ≡ i
unfolding page_in_turn_lem
turn-apart true lo count i j h g e = omega arith
turn-apart false lo count i j h g e = omega arith

-- the turn of a page
unfoldable pub turn_of : Bool → ℕ → ℕ → ℕ → ℕ
turn_of true lo count r = r - lo
turn_of false lo count r = lo + count - suc r

pub turn-of : (upward : Bool) (lo count r : ℕ) → lo ≤ r → r < lo + count → (turn_of upward lo count r < count) × (page_in_turn_lem upward lo count (turn_of upward lo count r) ≡ r)
unfolding page_in_turn_lem turn_of
turn-of true lo count r h g = (omega arith, omega arith)
turn-of false lo count r h g = (omega arith, omega arith)

pub todo-skip : (changes : ℕ → Bool) (page : ℕ → ℕ) (i n : ℕ) → changes (page i) ≡ false → todo changes page i (suc n) ≡ todo changes page (suc i) n
unfolding todo
todo-skip changes page i n e = rw e

pub todo-store : (changes : ℕ → Bool) (page : ℕ → ℕ) (i n : ℕ) → changes (page i) ≡ true → todo changes page i (suc n) ≡ page i ∷ todo changes page (suc i) n
unfolding todo
todo-store changes page i n e = rw e

pub todo-few : (changes : ℕ → Bool) (page : ℕ → ℕ) (i n : ℕ) → length (todo changes page i n) ≤ n
unfolding todo
todo-few changes page i zero = omega arith
todo-few changes page i (suc n) = go (changes (page i)) (todo-few changes page (suc i) n)
  where
    go : (t : Bool) → length (todo changes page (suc i) n) ≤ n → length (cond t (page i ∷ todo changes page (suc i) n) (todo changes page (suc i) n)) ≤ suc n
    go true h = omega arith
    go false h = omega arith
