-- A row's number and word in the columns, by its source.
use mathlib.Core.Path.{◌≡◌, refl, sym, ap, ◌∙◌}
use mathlib.Core.Bool.{true}
use mathlib.Core.List.{List, map}
use Prim.Native.Nat.{ℕ, zero, suc, ◌+◌, ◌-◌, ◌*◌, ◌≤◌, ◌<◌}
use native.Mathlib.Nat.{zero-add}
use native.Mathlib.Omega.{arith}
use lib.ListN.{length, get_or, set, take, drop, length-map, length-drop, get_or-eq_default}
use lib.Seq.{paste, get_or-drop, take-paste}
use Rattle.buffers.proofs.Lists.{map-item}
use Rattle.buffers.proofs.Copies.{Copied, turn}
use Rattle.buffers.proofs.Written.{pasted_whole}
use Rattle.pages.specs.Position.{packed}
use Rattle.plan_transfer.specs.Sources.{named_item}
use Rattle.fits_table.specs.declared.rows.Row.{Row}
use Rattle.fits_table.specs.declared.rows.Row.TheVariants.{Star, Wrong}
use Rattle.fits_table.specs.Rows.{from32, position_at, row_at, good_rows, rows_read}
use Rattle.fits_table.proofs.GoodRows.{step, good-row}
use Rattle.fits_table.proofs.Reading.{length-read}
use Rattle.fits_pages.specs.Columns.{numbers_read, words_read}

pub number-of_row : (l : List ℕ) (at n i : ℕ) → i < n → get_or (map (λ (r : ℕ × ℕ). r.0) (rows_read l at n)) i 0 ≡ from32 l (at + 12 * i)
unfolding rows_read
number-of_row l at zero i h = absurd (omega arith)
number-of_row l at (suc n) zero h = let e : at + 12 * 0 ≡ at = omega arith in rw e
number-of_row l at (suc n) (suc i) h = number-of_row l (at + 12) n i (omega arith) ∙ ap (from32 l) (step at i)

pub word-of_row : (l : List ℕ) (at n i : ℕ) → i < n → get_or (map (λ (r : ℕ × ℕ). r.1) (rows_read l at n)) i 0 ≡ packed (position_at l (at + 12 * i))
unfolding rows_read
word-of_row l at zero i h = absurd (omega arith)
word-of_row l at (suc n) zero h = let e : at + 12 * 0 ≡ at = omega arith in rw e
word-of_row l at (suc n) (suc i) h = word-of_row l (at + 12) n i (omega arith) ∙ ap (λ (k : ℕ). packed (position_at l k)) (step at i)

pub numbers_long : (l : List ℕ) (n : ℕ) → length (numbers_read l n) ≡ n
numbers_long l n = length-map (rows_read l 5760 n) (λ (r : ℕ × ℕ). r.0) ∙ length-read l 5760 n

pub words_long : (l : List ℕ) (n : ℕ) → length (words_read l n) ≡ n
words_long l n = length-map (rows_read l 5760 n) (λ (r : ℕ × ℕ). r.1) ∙ length-read l 5760 n

-- what a source names
pub named_none : (l : List ℕ) (s : ℕ) → s ≡ 0 → 0 ≡ named_item l 0 s
unfolding named_item
named_none l s e = rw e

pub named-beyond : (l : List ℕ) (n s : ℕ) → length l ≡ n → n < s → 0 ≡ named_item l 0 s
unfolding named_item
named-beyond l n zero e h = absurd (omega arith)
named-beyond l n (suc s) e h = sym (get_or-eq_default l 0 (omega arith))

pub named-item : (l : List ℕ) (s : ℕ) → (s ≡ 0 → ⊥) → named_item l 0 s ≡ get_or l (s - 1) 0
unfolding named_item
named-item l zero h = absurd (h refl)
named-item l (suc s) h = let e : suc s - 1 ≡ s = omega arith in rw e

pub number-named : (l : List ℕ) (n s : ℕ) → (s ≡ 0 → ⊥) → s ≤ n → from32 l (5760 + 12 * (s - 1)) ≡ named_item (numbers_read l n) 0 s
number-named l n s h k = sym (named-item (numbers_read l n) s h ∙ number-of_row l 5760 n (s - 1) (omega arith))

pub word-named : (l : List ℕ) (n s : ℕ) → (s ≡ 0 → ⊥) → s ≤ n → packed (position_at l (5760 + 12 * (s - 1))) ≡ named_item (words_read l n) 0 s
word-named l n s h k = sym (named-item (words_read l n) s h ∙ word-of_row l 5760 n (s - 1) (omega arith))

-- so the word read of it is its own
module _ (l : List ℕ) (n s : ℕ) (g : good_rows 0 l 5760 n ≡ true) (h : s ≡ 0 → ⊥) (k : s ≤ n) {r : Row} (e : r ≡ row_at 0 l (5760 + 12 * (s - 1))) where
  is-star : r ≡ Star (from32 l (5760 + 12 * (s - 1))) (packed (position_at l (5760 + 12 * (s - 1))))
  is-star = e ∙ good-row l n 0 5760 (s - 1) g (omega arith)

  pub word-taken : (number word : ℕ) → r ≡ Star number word → word ≡ named_item (words_read l n) 0 s
  word-taken number word t =
      let both : Star number word ≡ Star (from32 l (5760 + 12 * (s - 1))) (packed (position_at l (5760 + 12 * (s - 1)))) = sym t ∙ is-star in
      let w : word ≡ packed (position_at l (5760 + 12 * (s - 1))) = cc in
      w ∙ word-named l n s h k

  pub never_wrong : r ≡ Wrong → ⊥
  never_wrong t =
      let both : Wrong ≡ Star (from32 l (5760 + 12 * (s - 1))) (packed (position_at l (5760 + 12 * (s - 1)))) = sym t ∙ is-star in
      let z : ◌≡◌ {A = ℕ} 0 1 = cc in
      omega arith

-- columns filled item by item

pub block-next : (ns B₀ B : List ℕ) (first i x : ℕ) → i < length B₀ → first + i < length ns → x ≡ get_or ns (first + i) 0 → Copied B₀ 0 (drop first ns) B i
    → Copied B₀ 0 (drop first ns) (set B i x) (i + 1)
block-next ns B₀ B first i x h k e c =
    rw (zero-add i) at (turn B₀ 0 (drop first ns) B i x (omega arith) (omega (arith, length-drop first ns)) (e ∙ sym (get_or-drop first ns i 0)) c)

pub block-end : (s B₀ B : List ℕ) (n : ℕ) → n ≤ length s → B ≡ paste B₀ 0 s n → take n B ≡ take n s
block-end s B₀ B n h e = ap (take n) e ∙ ap (λ (k : ℕ). take k (paste B₀ 0 s n)) (sym (zero-add n)) ∙ take-paste B₀ 0 s n (omega arith) h

pub column-next : (f : ℕ → ℕ) (pool N₀ N : List ℕ) (i x : ℕ) → i < length N₀ → i < length pool → x ≡ f (get_or pool i 0) → Copied N₀ 0 (map f pool) N i
    → Copied N₀ 0 (map f pool) (set N i x) (i + 1)
column-next f pool N₀ N i x h k e c =
    rw (zero-add i) at (turn N₀ 0 (map f pool) N i x (omega arith) (omega (arith, length-map pool f)) (e ∙ sym (map-item f pool i k)) c)

pub column-end : (f : ℕ → ℕ) (pool N₀ N : List ℕ) (i : ℕ) → length N₀ ≡ length pool → i ≡ length pool → Copied N₀ 0 (map f pool) N i → N ≡ map f pool
column-end f pool N₀ N i h e c = c.is ∙ pasted_whole N₀ (map f pool) i (h ∙ sym e) (length-map pool f ∙ sym e)
