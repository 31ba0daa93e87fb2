-- "The reader takes exactly what the writer can put out": what is written is taken, and what is taken is what its rows write.
-- Assumes nothing.
use mathlib.Core.Path.{◌≡◌, refl, sym, ap, ◌∙◌}
use mathlib.Core.Bool.{Bool, true, false, ◌&&◌, false≢true}
use mathlib.Core.List.{List, [], ◌∷◌, ◌++◌, append_assoc}
use Prim.Native.Nat.{ℕ, zero, suc, ◌+◌, ◌-◌, ◌*◌, ◌≤◌, ◌<◌}
use native.Mathlib.Omega.{arith}
use lib.Dec.{leb, eqb}
use lib.ListN.{length, get_or, take, drop, replicate, length-drop, take-append-drop}
use lib.Seq.{drop_at, drop-drop, take-add}
use borrow.Author.Tests.{leb-true, eqb-true}
use Rattle.buffers.proofs.Lists.{alike_same}
use Rattle.buffers.specs.Lists.{alike}
use Rattle.buffers.proofs.Tests.{and-true}
use Rattle.pages.specs.Page.{empties}
use Rattle.fits_table.specs.declared.cards.Table.TheVariants.{Rows}
use Rattle.fits_table.specs.declared.rows.Row.{Row}
use Rattle.fits_table.specs.declared.rows.Row.TheVariants.{Star, Wrong}
use Rattle.fits_table.specs.Header.{headers, candidate, tells, answer, table_in, table_length, blocks_of}
use Rattle.fits_table.specs.Rows.{row_bytes, from32, row_at, good_rows, good_after, rows_bytes, table_of, rows_read}
use Rattle.fits_table.specs.Shape.{RowsUp}
use Rattle.fits_table.proofs.Fields.{headers-long}
use Rattle.fits_table.proofs.RoundTrip.{row_read, Taken, row_back, taken-number, taken_word, number_small}
use Rattle.fits_table.proofs.Told.{told-table}
use Rattle.fits_table.proofs.Whole.{length-row, length-rows}

-- written rows are good
pub rows_taken : (rs : List (ℕ × ℕ)) (last : ℕ) (l r : List ℕ) (at : ℕ) → drop at l ≡ rows_bytes rs ++ r → RowsUp last rs → good_rows last l at (length rs) ≡ true
unfolding good_rows rows_bytes
rows_taken [] last l r at e u = refl
rows_taken (x ∷ rs) last l r at e u =
    let here : drop at l ≡ row_bytes x.0 x.1 ++ (rows_bytes rs ++ r) = e ∙ append_assoc (row_bytes x.0 x.1) (rows_bytes rs) r in
    let next : drop (at + 12) l ≡ rows_bytes rs ++ r
    = sym (drop-drop 12 at l) ∙ ap (drop 12) here ∙ drop_at (row_bytes x.0 x.1) (rows_bytes rs ++ r) 12 (length-row x.0 x.1) in
    let row : row_at last l at ≡ Star x.0 x.1
    = row_read l (rows_bytes rs ++ r) at x.0 x.1 here (number_small x.0 u.1.0) u.1.1.0 last u.0 u.1.0 in
    ap (λ (q : Row). good_after q (λ (k : ℕ). good_rows k l (at + 12) (length rs))) row ∙ rows_taken rs x.0 l r (at + 12) next u.1.1.1

-- the n rows from byte `at` on are those of the stars read
pub record Read (l : List ℕ) (last at n : ℕ) : Type 0 where
  pub is : take (12 * n) (drop at l) ≡ rows_bytes (rows_read l at n)
  pub up : RowsUp last (rows_read l at n)

pub length-read : (l : List ℕ) (at n : ℕ) → length (rows_read l at n) ≡ n
unfolding rows_read
length-read l at zero = refl
length-read l at (suc n) = ap suc (length-read l (at + 12) n)

-- good rows are what their stars write
pub rows_back : (l : List ℕ) → ((k : ℕ) → get_or l k 0 < 256) → (n last at : ℕ) → at + 12 * n ≤ length l → good_rows last l at n ≡ true → Read l last at n
unfolding good_rows rows_read rows_bytes
rows_back l bytes zero last at h e = record { is = refl; up = tt }
rows_back l bytes (suc n) last at h e = go (row_at last l at) refl e (λ k g. rows_back l bytes n k (at + 12) (omega arith) g)
  where
    whole : take (12 * suc n) (drop at l) ≡ take 12 (drop at l) ++ take (12 * n) (drop (at + 12) l)
    whole =
        let sum : 12 * suc n ≡ 12 + 12 * n = omega arith in
        ap (λ (k : ℕ). take k (drop at l)) sum ∙ take-add 12 (12 * n) (drop at l) ∙ ap (λ (q : List ℕ). take 12 (drop at l) ++ take (12 * n) q) (drop-drop 12 at l)

    go : (r : Row) → row_at last l at ≡ r → good_after r (λ (k : ℕ). good_rows k l (at + 12) n) ≡ true
        → ((k : ℕ) → good_rows k l (at + 12) n ≡ true → Read l k (at + 12) n) → Read l last at (suc n)
    go Wrong g t ih = absurd (false≢true t)
    go (Star k w) g t ih =
        let row : Taken l bytes last at k w = row_back l bytes last at k w (omega arith) g in
        let a : from32 l at ≡ k = taken-number last l at k w g in
        let b : _ ≡ w = taken_word last l at k w g in
        let rest : Read l k (at + 12) n = ih k t in
        record {
          is = whole ∙ ap (λ (q : List ℕ). q ++ take (12 * n) (drop (at + 12) l)) row.is ∙ ap (λ (q : List ℕ). row_bytes k w ++ q) rest.is ∙ rw (a, b);
          up = rw (a, b) (row.above, (row.number, (row.word, rest.up)));
        }

-- a pad of zeros
zeros : (l : List ℕ) → empties l ≡ true → l ≡ replicate (length l) 0
unfolding empties
zeros [] e = refl
zeros (x ∷ l) e =
    let p = and-true (eqb x 0) (empties l) e in
    ap (λ (k : ℕ). k ∷ l) (eqb-true x 0 p.0) ∙ ap (λ (q : List ℕ). 0 ∷ q) (zeros l p.1)

pub empties-zeros : (n : ℕ) → empties (replicate n 0) ≡ true
unfolding empties
empties-zeros zero = refl
empties-zeros (suc n) = empties-zeros n

-- what a table's answer shows
answered : (t : Bool) (a n : ℕ) → answer t a ≡ Rows n → (t ≡ true) × (a ≡ n)
answered true a n e = (refl, cc)
answered false a n e = let z : ◌≡◌ {A = ℕ} 0 1 = cc in absurd (omega arith)

pub record Told (l : List ℕ) (n : ℕ) : Type 0 where
  pub few : n ≤ 32768
  pub starts : take 5760 l ≡ headers n
  pub size : length l ≡ table_length n

pub told : (l : List ℕ) (n : ℕ) → table_in l ≡ Rows n → Told l n
unfolding table_in tells
told l n e =
    let p = answered (leb 5760 (length l) && (leb (candidate l) 32768 && (alike (take 5760 l) (headers (candidate l)) && eqb (length l) (table_length (candidate l))))) (candidate l) n e in
    let q = and-true (leb 5760 (length l)) (leb (candidate l) 32768 && (alike (take 5760 l) (headers (candidate l)) && eqb (length l) (table_length (candidate l)))) p.0 in
    let r = and-true (leb (candidate l) 32768) (alike (take 5760 l) (headers (candidate l)) && eqb (length l) (table_length (candidate l))) q.1 in
    let s = and-true (alike (take 5760 l) (headers (candidate l))) (eqb (length l) (table_length (candidate l))) r.1 in
    record {
      few = rw p.1 at (leb-true (candidate l) 32768 r.0);
      starts = alike_same (take 5760 l) (headers (candidate l)) s.0 ∙ ap headers p.1;
      size = eqb-true (length l) (table_length (candidate l)) s.1 ∙ ap table_length p.1;
    }

-- "writing a table that was read restores its bytes"
pub table_back : (l : List ℕ) (n : ℕ) → ((k : ℕ) → get_or l k 0 < 256) → table_in l ≡ Rows n → good_rows 0 l 5760 n ≡ true → empties (drop (5760 + 12 * n) l) ≡ true
    → (l ≡ table_of (rows_read l 5760 n)) × RowsUp 0 (rows_read l 5760 n)
unfolding table_of
table_back l n bytes e g z = (whole, rows.up)
  where
    t : Told l n
    t = told l n e

    rows : Read l 0 5760 n
    rows = rows_back l bytes n 0 5760 (omega (arith, t.size)) g

    pad : drop (5760 + 12 * n) l ≡ replicate (blocks_of (12 * n) - 12 * n) 0
    pad =
        let left : length (drop (5760 + 12 * n) l) ≡ blocks_of (12 * n) - 12 * n = length-drop (5760 + 12 * n) l ∙ omega (arith, t.size) in
        zeros (drop (5760 + 12 * n) l) z ∙ ap (λ (k : ℕ). replicate k 0) left

    cut : l ≡ take 5760 l ++ (take (12 * n) (drop 5760 l) ++ drop (5760 + 12 * n) l)
    cut =
        sym (take-append-drop 5760 l)
        ∙ ap (λ (q : List ℕ). take 5760 l ++ q) (sym (take-append-drop (12 * n) (drop 5760 l)) ∙ ap (λ (q : List ℕ). take (12 * n) (drop 5760 l) ++ q) (drop-drop (12 * n) 5760 l))

    whole : l ≡ headers (length (rows_read l 5760 n)) ++ (rows_bytes (rows_read l 5760 n) ++ replicate (blocks_of (12 * length (rows_read l 5760 n)) - 12 * length (rows_read l 5760 n)) 0)
    whole =
        cut ∙ ap (λ (q : List ℕ). q ++ (take (12 * n) (drop 5760 l) ++ drop (5760 + 12 * n) l)) t.starts
        ∙ ap (λ (q : List ℕ). headers n ++ (q ++ drop (5760 + 12 * n) l)) rows.is
        ∙ ap (λ (q : List ℕ). headers n ++ (rows_bytes (rows_read l 5760 n) ++ q)) pad
        ∙ ap (λ (k : ℕ). headers k ++ (rows_bytes (rows_read l 5760 n) ++ replicate (blocks_of (12 * k) - 12 * k) 0)) (sym (length-read l 5760 n))

-- "exactly what the writer can put out", the other half: neither 10 nor 11
pub record Accepted (l : List ℕ) (n : ℕ) : Type 0 where
  pub header : table_in l ≡ Rows n
  pub good : good_rows 0 l 5760 n ≡ true
  pub pad : empties (drop (5760 + 12 * n) l) ≡ true

pub table_taken : (rs : List (ℕ × ℕ)) → length rs ≤ 32768 → RowsUp 0 rs → Accepted (table_of rs) (length rs)
unfolding table_of
table_taken rs h u =
    record {
      header = told-table rs h;
      good = rows_taken rs 0 l pad-bytes 5760 behind u;
      pad =
          ap empties (sym (drop-drop (12 * length rs) 5760 l) ∙ ap (drop (12 * length rs)) behind ∙ drop_at (rows_bytes rs) pad-bytes (12 * length rs) (length-rows rs))
          ∙ empties-zeros (blocks_of (12 * length rs) - 12 * length rs);
    }
  where
    pad-bytes : List ℕ
    pad-bytes = replicate (blocks_of (12 * length rs) - 12 * length rs) 0

    l : List ℕ
    l = headers (length rs) ++ (rows_bytes rs ++ pad-bytes)

    behind : drop 5760 l ≡ rows_bytes rs ++ pad-bytes
    behind = drop_at (headers (length rs)) (rows_bytes rs ++ pad-bytes) 5760 (headers-long (length rs))
