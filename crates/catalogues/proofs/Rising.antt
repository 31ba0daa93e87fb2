-- Proper rows, sorted, are rows of a table; and what `put_table` reads from two columns are these rows.
-- Assumes nothing.
use mathlib.Core.Path.{◌≡◌, refl, sym, ap, ◌∙◌}
use mathlib.Core.Bool.{Bool, true, false, cond, not}
use mathlib.Core.List.{List, [], ◌∷◌, map}
use Prim.Native.Nat.{ℕ, zero, suc, ◌+◌, ◌≤◌, ◌<◌}
use native.Mathlib.Nat.{add-zero, zero-add}
use native.Mathlib.Omega.{arith}
use lib.Dec.{leb, eqb}
use lib.ListN.{length, get_or, take, length-map}
use lib.Seq.{length-take-le, sets-eq}
use Rattle.buffers.specs.Lists.{written}
use Rattle.lines.specs.Replies.{TextAt}
use borrow.Author.Tests.{leb-true, ne_eqb}
use Rattle.buffers.proofs.Tests.{and-true}
use Rattle.pages.specs.Position.{valid_number, valid_word}
use Rattle.fits_table.specs.Header.{table_length}
use Rattle.fits_table.specs.Items.{kept_item, held_items}
use Rattle.fits_table.specs.Order.{insert_by, sort_by, All}
use Rattle.fits_table.specs.Rows.{table_of}
use Rattle.fits_table.specs.Shape.{row_of, rows_in, RowsUp}
use Rattle.fits_table.proofs.Orders.{all_map, all_insert, all-sort, Up, up_sort, length-sort}
use Rattle.fits_table.proofs.FileRows.{map-sort}
use Rattle.fits_table.proofs.Told.{table_long}
use Rattle.catalogues.specs.Entries.{pairs, rows_held}
use Rattle.catalogues.specs.Runs.{table_from, Proper}
use Rattle.catalogues.proofs.Held.{held-length}

abbrev Different : List (ℕ × ℕ) → Type 0
Different [] = Unit {0}
Different (r ∷ rs) = All (λ (s : ℕ × ℕ). r.0 ≡ s.0 → ⊥) rs × Different rs

abbrev number : ℕ × ℕ → ℕ
number r = r.0

different-insert : (r : ℕ × ℕ) (l : List (ℕ × ℕ)) → All (λ (s : ℕ × ℕ). r.0 ≡ s.0 → ⊥) l → Different l → Different (insert_by number r l)
unfolding insert_by
different-insert r [] a d = (tt, tt)
different-insert r (y ∷ ys) a d = go (leb r.0 y.0) (different-insert r ys a.1 d.1)
  where
    go : (t : Bool) → Different (insert_by number r ys) → Different (cond t (r ∷ y ∷ ys) (y ∷ insert_by number r ys))
    go true ih = (a, d)
    go false ih = (all_insert (λ (s : ℕ × ℕ). y.0 ≡ s.0 → ⊥) number r ys (λ e. a.0 (sym e)) d.0, ih)

different-sort : (l : List (ℕ × ℕ)) → Different l → Different (sort_by number l)
unfolding sort_by
different-sort [] d = tt
different-sort (r ∷ l) d =
    different-insert r (sort_by number l) (all-sort (λ (s : ℕ × ℕ). r.0 ≡ s.0 → ⊥) number l d.0) (different-sort l d.1)

abbrev Valid : ℕ × ℕ → Type 0
Valid r = (valid_number r.0 ≡ true) × (valid_word r.1 ≡ true)

-- numbers that rise, not strictly, and differ, rise
above : (n : ℕ) (l : List (ℕ × ℕ)) → All (λ (s : ℕ × ℕ). n ≤ s.0) l → All (λ (s : ℕ × ℕ). n ≡ s.0 → ⊥) l → All (λ (s : ℕ × ℕ). n < s.0) l
above n [] a b = tt
above n (r ∷ l) a b = (strict n r.0 a.0 b.0, above n l a.1 b.1)
  where
    strict : (x y : ℕ) → x ≤ y → (x ≡ y → ⊥) → x < y
    strict x y h k = omega (arith, k)

rows-up : (l : List (ℕ × ℕ)) (last : ℕ) → All (λ (s : ℕ × ℕ). last < s.0) l → Up number l → Different l → All Valid l → RowsUp last l
rows-up [] last a u d v = tt
rows-up (r ∷ l) last a u d v =
    (a.0, (v.0.0, (v.0.1, rows-up l r.0 (above r.0 l u.0 d.0) u.1 d.1 v.1)))

different : (l : List (ℕ × ℕ)) → Proper l → Different l
different [] p = tt
different (r ∷ l) p = (p.1.0, different l p.1.1)

all_valid : (l : List (ℕ × ℕ)) → Proper l → All Valid l
all_valid [] p = tt
all_valid (r ∷ l) p = (p.0, all_valid l p.1.1)

positive : (r : ℕ × ℕ) → Valid r → 0 < r.0
unfolding valid_number
positive r v = leb-true 1 r.0 (and-true _ _ v.0).0

sorted-up : (l : List (ℕ × ℕ)) → Proper l → RowsUp 0 (sort_by number l)
sorted-up l p =
    let valid : All Valid (sort_by number l) = all-sort Valid number l (all_valid l p) in
    rows-up (sort_by number l) 0 (all_map Valid (λ (s : ℕ × ℕ). 0 < s.0) positive (sort_by number l) valid) (up_sort number l)
    (different-sort l (different l p)) valid

-- the items that hold a number are all of them
held-pairs : (N W : List ℕ) (i : ℕ) (ns ws : List ℕ) → length ns ≡ length ws → Proper (pairs ns ws)
    → ((k : ℕ) → get_or N (i + k) 0 ≡ get_or ns k 0) → ((k : ℕ) → get_or W (i + k) 0 ≡ get_or ws k 0)
    → map (row_of N W) (held_items i ns) ≡ pairs ns ws
unfolding pairs held_items kept_item
held-pairs N W i [] ws e p n w = refl
held-pairs N W i (x ∷ ns) [] e p n w = absurd (omega arith)
held-pairs N W i (x ∷ ns) (y ∷ ws) e p n w =
    let some : 0 < x = positive (x, y) p.0 in
    let is : eqb x 0 ≡ false = ne_eqb x 0 (λ z. omega arith) in
    rw is
    (ap (λ (k : ℕ). (k, get_or W i 0) ∷ map (row_of N W) (held_items (suc i) ns)) (here x ns N n)
    ∙ ap (λ (k : ℕ). (x, k) ∷ map (row_of N W) (held_items (suc i) ns)) (here y ws W w)
    ∙ ap (λ (l : List (ℕ × ℕ)). (x, y) ∷ l) (held-pairs N W (suc i) ns ws (omega arith) p.1.1 (later x ns N n) (later y ws W w)))
  where
    later : (y : ℕ) (m L : List ℕ) → ((k : ℕ) → get_or L (i + k) 0 ≡ get_or (y ∷ m) k 0) → (k : ℕ) → get_or L (suc i + k) 0 ≡ get_or m k 0
    later y m L h k = let e : suc i + k ≡ i + suc k = omega arith in ap (λ (j : ℕ). get_or L j 0) e ∙ h (suc k)

    here : (y : ℕ) (m L : List ℕ) → ((k : ℕ) → get_or L (i + k) 0 ≡ get_or (y ∷ m) k 0) → get_or L i 0 ≡ y
    here y m L h = ap (λ (j : ℕ). get_or L j 0) (sym (add-zero i)) ∙ h 0

module _ (k : ℕ) (ns ws : List ℕ) (p : k ≤ length ns) (q : k ≤ length ws) (proper : Proper (rows_held k ns ws)) where
  items : map (row_of (take k ns) (take k ws)) (held_items 0 (take k ns)) ≡ rows_held k ns ws
  unfolding rows_held
  items =
      held-pairs (take k ns) (take k ws) 0 (take k ns) (take k ws) (length-take-le k ns p ∙ sym (length-take-le k ws q)) proper
      (λ j. ap (λ (i : ℕ). get_or (take k ns) i 0) (zero-add j)) (λ j. ap (λ (i : ℕ). get_or (take k ws) i 0) (zero-add j))

  pub held-count : length (held_items 0 (take k ns)) ≡ k
  held-count =
      sym (length-map (held_items 0 (take k ns)) (row_of (take k ns) (take k ws))) ∙ ap length items ∙ held-length k ns ws p q

  is_sorted : rows_in (take k ns) (take k ws) ≡ sort_by number (rows_held k ns ws)
  unfolding rows_in
  is_sorted =
      map-sort (λ (x : ℕ). get_or (take k ns) x 0) number (row_of (take k ns) (take k ws)) (λ x. refl) (held_items 0 (take k ns))
      ∙ ap (sort_by number) items

  pub held_up : RowsUp 0 (rows_in (take k ns) (take k ws))
  held_up = rw is_sorted (sorted-up (rows_held k ns ws) proper)

  pub table_is : table_of (rows_in (take k ns) (take k ws)) ≡ table_from (rows_held k ns ws)
  unfolding table_from
  table_is = ap table_of is_sorted

  pub table_size : length (table_from (rows_held k ns ws)) ≡ table_length k
  unfolding table_from
  table_size =
      table_long (sort_by number (rows_held k ns ws)) ∙ ap table_length (length-sort number (rows_held k ns ws) ∙ held-length k ns ws p q)

  pub table_put : (out out' : List ℕ) → table_length k ≤ length out → out' ≡ written 0 (table_of (rows_in (take k ns) (take k ws))) out
      → TextAt 0 (table_from (rows_held k ns ws)) out out' (table_length k)
  unfolding written
  table_put out out' h e =
      record {
        buffer =
            e ∙ ap (λ (t : List ℕ). written 0 t out) table_is
            ∙ sym (sets-eq (table_from (rows_held k ns ws)) out 0 (omega (arith, table_size)));
        end = sym (zero-add (length (table_from (rows_held k ns ws))) ∙ table_size);
      }
