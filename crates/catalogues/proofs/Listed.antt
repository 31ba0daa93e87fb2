-- Lines of a table's rows, and what is kept of a long input.
-- Assumes nothing.
use mathlib.Core.Path.{◌≡◌, refl, sym, ap, ◌∙◌}
use mathlib.Core.List.{List, [], ◌∷◌, ◌++◌, append-nil, append_assoc}
use Prim.Native.Nat.{ℕ, zero, suc, ◌+◌, ◌-◌, ◌*◌, ◌%◌, ◌^◌, ◌≤◌, ◌<◌}
use native.Mathlib.Nat.{zero-add, suc-add}
use native.Mathlib.Numerals.{add-one}
use native.Mathlib.Decide.{dec_lt}
use native.Mathlib.Omega.{arith}
use mathlib.Core.Bool.{Bool, true, false, cond, ◌&&◌}
use lib.Dec.{eqb, ltb}
use borrow.Author.Tests.{lt-ltb, le-ltb}
use mir.Syntax.{w32}
use mir.Val.{to_z, of_z}
use mir.ValLaws.{to_z-of_z}
use lib.ListN.{length, get_or, take, drop, length-append}
use lib.Seq.{take_all, take-append-le, take-append-add, take-take, length-take-le, paste, take-paste}
use Rattle.lines.specs.Replies.{TextAt}
use Rattle.lines.proofs.Writing.{then}
use Rattle.fits_table.specs.Header.{table_in}
use Rattle.fits_table.specs.Rows.{from32, position_at, row_at, good_rows, rows_read}
use Rattle.fits_table.specs.declared.cards.Table.{Table}
use Rattle.fits_table.specs.declared.cards.Table.TheVariants.{Rows, Nothing}
use Rattle.fits_table.specs.declared.rows.Row.{Row}
use Rattle.fits_table.specs.declared.rows.Row.TheVariants.{Star, Wrong}
use Rattle.fits_table.proofs.GoodRows.{step, good-row}
use Rattle.fits_table.proofs.Reading.{told}
use Rattle.pages.specs.Page.{empties}
use Rattle.pages.specs.Position.{valid_word, packed, unpacked}
use Rattle.pages.proofs.Words.{valid-word, lowers}
use Rattle.catalogues.specs.Listing.{row_line, row_lines, refusal_line, listed_by, listed, kept_table, is_table, least, at_first_lem, part_by, part_of, in_parts}
use Rattle.catalogues.specs.Shape.{line_at}

lines_next : (l : List ℕ) (at i : ℕ) → row_lines (rows_read l at (suc i)) ≡ row_lines (rows_read l at i) ++ line_at l (at + 12 * i)
unfolding row_lines rows_read
lines_next l at zero = let e : at + 12 * 0 ≡ at = omega arith in append-nil (line_at l at) ∙ rw e
lines_next l at (suc i) =
    ap (λ (t : List ℕ). line_at l at ++ t) (lines_next l (at + 12) i)
    ∙ sym (append_assoc (line_at l at) (row_lines (rows_read l (at + 12) i)) (line_at l (at + 12 + 12 * i)))
    ∙ ap (λ (k : ℕ). (line_at l at ++ row_lines (rows_read l (at + 12) i)) ++ line_at l k) (step at i)

-- one row's line behind those before it
pub line_more : (l : List ℕ) (first i at next : ℕ) (out mid after : List ℕ) → TextAt 0 (row_lines (rows_read l (5760 + 12 * first) i)) out mid at
    → TextAt at (line_at l (5760 + 12 * (first + i))) mid after next → TextAt 0 (row_lines (rows_read l (5760 + 12 * first) (i + 1))) out after next
line_more l first i at next out mid after p q =
    let e : 5760 + 12 * (first + i) ≡ 5760 + 12 * first + 12 * i = omega arith in
    rw (add-one i, lines_next l (5760 + 12 * first) i)
    (then 0 (row_lines (rows_read l (5760 + 12 * first) i)) (line_at l (5760 + 12 * first + 12 * i)) out mid after at next p (rw e at q))

-- the rows from one on, then those behind them
lines_add : (l : List ℕ) (at a b : ℕ) → row_lines (rows_read l at a) ++ row_lines (rows_read l (at + 12 * a) b) ≡ row_lines (rows_read l at (a + b))
unfolding row_lines rows_read
lines_add l at zero b = let e : at + 12 * 0 ≡ at = omega arith in rw (e, zero-add b)
lines_add l at (suc a) b =
    let e : at + 12 * suc a ≡ at + 12 + 12 * a = omega arith in
    append_assoc (line_at l at) (row_lines (rows_read l (at + 12) a)) (row_lines (rows_read l (at + 12 * suc a) b))
    ∙ rw (e, suc-add a b, lines_add l (at + 12) a b)

least-le : (a b : ℕ) → a ≤ b → least a b ≡ a
unfolding least
least-le a b h = go (dec_lt a b)
  where
    go : Dec (a < b) → cond (ltb a b) a b ≡ a
    go (yes p) = rw (lt-ltb a b p)
    go (no p) = rw (le-ltb a b (omega arith)) (omega arith)

least-ge : (a b : ℕ) → b ≤ a → least a b ≡ b
unfolding least
least-ge a b h = rw (le-ltb a b h)

pub least-is : (r a b : ℕ) → (a ≤ b → r ≡ a) → (b ≤ a → r ≡ b) → r ≡ least a b
least-is r a b f g = go (dec_lt b a)
  where
    go : Dec (b < a) → r ≡ least a b
    go (yes p) = g (omega arith) ∙ sym (least-ge a b (omega arith))
    go (no p) = f (omega arith) ∙ sym (least-le a b (omega arith))

-- the rows of parts up to one, and of it
part-rows : (l : List ℕ) (n a : ℕ) → row_lines (rows_read l 5760 (least a n)) ++ row_lines (rows_read l (5760 + 12 * least a n) (least (n - least a n) 8192))
    ≡ row_lines (rows_read l 5760 (least (a + 8192) n))
part-rows l n a = lines_add l 5760 (least a n) (least (n - least a n) 8192) ∙ ap (λ (k : ℕ). row_lines (rows_read l 5760 k)) (sums (dec_lt a n) (dec_lt (a + 8192) n))
  where
    sums : Dec (a < n) → Dec (a + 8192 < n) → least a n + least (n - least a n) 8192 ≡ least (a + 8192) n
    sums (yes p) (yes q) = rw (least-le a n (omega arith), least-ge (n - a) 8192 (omega arith), least-le (a + 8192) n (omega arith))
    sums (yes p) (no q) = rw (least-le a n (omega arith), least-le (n - a) 8192 (omega arith), least-ge (a + 8192) n (omega arith)) (omega arith)
    sums (no p) q =
        let none : n - n ≡ 0 = omega arith in
        rw (least-ge a n (omega arith), none, least-le 0 8192 (omega arith), least-ge (a + 8192) n (omega arith)) (omega arith)

rows-parts : (l : List ℕ) (n : ℕ) → n ≤ 32768
    → let part : ℕ → List ℕ = λ (k : ℕ). row_lines (rows_read l (5760 + 12 * least k n) (least (n - least k n) 8192)) in
    part 0 ++ (part 8192 ++ (part 16384 ++ part 24576)) ≡ row_lines (rows_read l 5760 n)
unfolding row_lines rows_read
rows-parts l n h =
    let part : ℕ → List ℕ = λ (k : ℕ). row_lines (rows_read l (5760 + 12 * least k n) (least (n - least k n) 8192)) in
    let upto : ℕ → List ℕ = λ (k : ℕ). row_lines (rows_read l 5760 (least k n)) in
    let first : upto 0 ≡ [] = ap (λ (k : ℕ). row_lines (rows_read l 5760 k)) (least-le 0 n (omega arith)) in
    ap (λ (t : List ℕ). t ++ (part 0 ++ (part 8192 ++ (part 16384 ++ part 24576)))) (sym first)
    ∙ sym (append_assoc (upto 0) (part 0) (part 8192 ++ (part 16384 ++ part 24576)))
    ∙ ap (λ (t : List ℕ). t ++ (part 8192 ++ (part 16384 ++ part 24576))) (part-rows l n 0)
    ∙ sym (append_assoc (upto 8192) (part 8192) (part 16384 ++ part 24576))
    ∙ ap (λ (t : List ℕ). t ++ (part 16384 ++ part 24576)) (part-rows l n 8192)
    ∙ sym (append_assoc (upto 16384) (part 16384) (part 24576))
    ∙ ap (λ (t : List ℕ). t ++ part 24576) (part-rows l n 16384)
    ∙ part-rows l n 24576
    ∙ ap (λ (k : ℕ). row_lines (rows_read l 5760 k)) (least-ge 32768 n h)

pub parts_listed : (l : List ℕ) → in_parts (λ (i : ℕ). part_of i l) ≡ listed l
unfolding in_parts part_of part_by listed listed_by at_first_lem
parts_listed l = go (table_in l) refl
  where
    go : (t : Table) → table_in l ≡ t → part_by 0 l t ++ (part_by 1 l t ++ (part_by 2 l t ++ part_by 3 l t)) ≡ listed_by l t
    go Nothing e = append-nil (refusal_line 10)
    go (Rows n) e = by (good_rows 0 l 5760 n && empties (drop (5760 + 12 * n) l))
      where
        part : ℕ → List ℕ
        part k = row_lines (rows_read l (5760 + 12 * least k n) (least (n - least k n) 8192))

        by : (t : Bool) → cond t (part 0) (refusal_line 11) ++ (cond t (part 8192) [] ++ (cond t (part 16384) [] ++ cond t (part 24576) [])) ≡ cond t (row_lines (rows_read l 5760 n)) (refusal_line 11)
        by true = rows-parts l n (told l n e).few
        by false = append-nil (refusal_line 11)

-- a longer input than the longest table is none
long-none : (l : List ℕ) → 400320 < length l → listed l ≡ refusal_line 10
unfolding listed listed_by
long-none l h = go (table_in l) refl
  where
    go : (t : Table) → table_in l ≡ t → listed_by l t ≡ refusal_line 10
    go Nothing e = refl
    go (Rows n) e = let t = told l n e in absurd (omega (arith, t.few, t.size))

pub kept-listed : (l : List ℕ) → listed (kept_table l) ≡ listed l
unfolding kept_table
kept-listed l = go (dec_lt 400320 (length l))
  where
    go : Dec (400320 < length l) → listed (take 400321 l) ≡ listed l
    go (yes p) = long-none (take 400321 l) (omega (arith, length-take-le 400321 l p)) ∙ sym (long-none l p)
    go (no p) = ap listed (take_all 400321 l (omega arith))

-- a block kept behind what was kept
pub block-kept : (given given' block : List ℕ) (at n : ℕ) → at ≤ 400321 → 400321 ≤ length given → n ≤ length block → at + n ≤ 400321
    → (length block ≤ 400321 - at → n ≡ length block) → (400321 - at ≤ length block → n ≡ 400321 - at)
    → given' ≡ paste given at (drop 0 block) n → take (at + n) given' ≡ kept_table (take at given ++ block)
unfolding kept_table
block-kept given given' block at n a g b m few many e =
    ap (take (at + n)) e ∙ take-paste given at block n (omega arith) b ∙ sym (go (dec_lt (400321 - at) (length block)))
  where
    front : length (take at given) ≡ at
    front = length-take-le at given (omega arith)

    go : Dec (400321 - at < length block) → take 400321 (take at given ++ block) ≡ take at given ++ take n block
    go (yes p) =
        let whole : 400321 ≡ length (take at given) + n = omega (arith, front, many (omega arith)) in
        ap (λ (k : ℕ). take k (take at given ++ block)) whole ∙ take-append-add (take at given) block n
    go (no p) =
        take_all 400321 (take at given ++ block) (omega (arith, front, length-append (take at given) block))
        ∙ ap (λ (t : List ℕ). take at given ++ t) (sym (take_all n block (omega (arith, few (omega arith)))))

pub empty-none : (l : List ℕ) → length l ≡ 0 → false ≡ is_table l
unfolding is_table
empty-none [] e = refl
empty-none (c ∷ l) e = absurd (omega arith)

pub first_byte : (l : List ℕ) → (length l ≡ 0 → ⊥) → eqb (get_or l 0 0) 83 ≡ is_table l
unfolding is_table
first_byte [] h = absurd (h refl)
first_byte (c ∷ l) h = refl

-- a declination is read back from its 32 bits
pub dec_back : (w : ℕ) → valid_word w ≡ true → to_z w32 (of_z w32 (unpacked w).dec) ≡ (unpacked w).dec
unfolding unpacked
dec_back w e = to_z-of_z w32 (unpacked w).dec (lowers (w % 2 ^ 32) (valid-word w e).low).fits

-- row i of good rows
module _ (l : List ℕ) (n i : ℕ) (g : good_rows 0 l 5760 n ≡ true) (h : i < n) {r : Row} (e : r ≡ row_at 0 l (5760 + 12 * i)) where
  is-star : r ≡ Star (from32 l (5760 + 12 * i)) (packed (position_at l (5760 + 12 * i)))
  is-star = e ∙ good-row l n 0 5760 i g h

  pub row_put : (number word : ℕ) → r ≡ Star number word → (at next : ℕ) (before after : List ℕ)
      → TextAt at (row_line number word) before after next → TextAt at (line_at l (5760 + 12 * i)) before after next
  row_put number word t at next before after w =
      let both : Star number word ≡ Star (from32 l (5760 + 12 * i)) (packed (position_at l (5760 + 12 * i))) = sym t ∙ is-star in
      let a : number ≡ from32 l (5760 + 12 * i) = cc in
      let b : word ≡ packed (position_at l (5760 + 12 * i)) = cc in
      rw (← a, ← b) w

  pub row_there : r ≡ Wrong → ⊥
  row_there t =
      let both : Wrong ≡ Star (from32 l (5760 + 12 * i)) (packed (position_at l (5760 + 12 * i))) = sym t ∙ is-star in
      let z : ◌≡◌ {A = ℕ} 0 1 = cc in
      omega arith

-- what is put out, test by test
module _ (part : ℕ) (l : List ℕ) {t : Table} (e : t ≡ table_in l) where
  pub none-listed : t ≡ Nothing → at_first_lem part (refusal_line 10) ≡ part_of part l
  unfolding part_of part_by
  none-listed h = rw (sym e ∙ h)

  module _ (n : ℕ) (h : t ≡ Rows n) where
    pub inside : (n ≤ 32768) × (5760 + 12 * n ≤ length l)
    inside = let k = told l n (sym e ∙ h) in (k.few, omega (arith, k.size))

    pub row_wrong : good_rows 0 l 5760 n ≡ false → at_first_lem part (refusal_line 11) ≡ part_of part l
    unfolding part_of part_by
    row_wrong g = rw (sym e ∙ h, g)

    pub pad_wrong : good_rows 0 l 5760 n ≡ true → empties (drop (5760 + 12 * n) l) ≡ false → at_first_lem part (refusal_line 11) ≡ part_of part l
    unfolding part_of part_by
    pad_wrong g z = rw (sym e ∙ h, g, z)

    pub part-listed : good_rows 0 l 5760 n ≡ true → empties (drop (5760 + 12 * n) l) ≡ true → (first count : ℕ)
        → first ≡ least (8192 * part) n → count ≡ least (n - first) 8192 → row_lines (rows_read l (5760 + 12 * first) count) ≡ part_of part l
    unfolding part_of part_by
    part-listed g z first count f c = rw (c, f, sym e ∙ h, g, z)

-- what is kept after what was kept
pub kept_then : (a b : List ℕ) → kept_table (kept_table a ++ b) ≡ kept_table (a ++ b)
unfolding kept_table
kept_then a b = go (dec_lt 400321 (length a))
  where
    go : Dec (400321 < length a) → take 400321 (take 400321 a ++ b) ≡ take 400321 (a ++ b)
    go (yes p) =
        take-append-le 400321 (take 400321 a) b (omega (arith, length-take-le 400321 a (omega arith)))
        ∙ take-take 400321 400321 a (omega arith) ∙ sym (take-append-le 400321 a b (omega arith))
    go (no p) = ap (λ (k : List ℕ). take 400321 (k ++ b)) (take_all 400321 a (omega arith))
