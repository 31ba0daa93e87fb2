-- What a written table tells its reader: its number of rows, and each row.
-- Assumes nothing.
use mathlib.Core.Path.{◌≡◌, sym, ap, ◌∙◌}
use mathlib.Core.Bool.{true, cond}
use mathlib.Core.List.{List, ◌++◌, append_assoc}
use Prim.Native.Nat.{ℕ, zero, suc, ◌+◌, ◌-◌, ◌*◌, ◌/◌, ◌%◌, ◌^◌, ◌≤◌, ◌<◌}
use native.Mathlib.Nat.{pow-suc}
use native.Mathlib.Decide.{dec_lt}
use native.Mathlib.Omega.{arith}
use lib.Dec.{eqb}
use lib.ListN.{length, take, drop, replicate, length-append, length-replicate}
use lib.Seq.{take_at, drop_at}
use borrow.Author.Tests.{le-ltb, ne_eqb}
use Rattle.buffers.proofs.Lists.{alike_self}
use Rattle.buffers.specs.Lists.{alike}
use Rattle.fits_table.specs.declared.cards.Table.TheVariants.{Rows}
use Rattle.fits_table.specs.Header.{leading, field, front, behind, headers, digit_step_lem, read_digits, candidate, table_in, table_length, blocks_of}
use Rattle.fits_table.specs.Rows.{rows_bytes, table_of}
use Rattle.fits_table.proofs.Fields.{read-snoc, length-field, front_long, headers-long, told-rows}
use Rattle.fits_table.proofs.Whole.{length-rows}

-- a digit behind v, and a blank
digit-step : (v d : ℕ) → v ≤ 32768 → d < 10 → digit_step_lem v (48 + d) ≡ 10 * v + d
unfolding digit_step_lem
digit-step v d h g = rw (le-ltb 32768 v h, le-ltb (48 + d) 48 (omega arith), le-ltb 57 (48 + d) (omega arith)) (omega arith)

blank_step : (v : ℕ) → v ≤ 32768 → digit_step_lem v 32 ≡ v
unfolding digit_step_lem
blank_step v h = rw (le-ltb 32768 v h)

-- the columns of n read back, where they are wide enough
read-leading : (w n : ℕ) → n ≤ 32768 → n < 10 ^ w → read_digits 0 (leading w n) ≡ n
unfolding leading read_digits
read-leading zero n h g = omega arith
read-leading (suc w) n h g =
    let wide : n / 10 < 10 ^ w = omega (arith, pow-suc 10 w) in
    read-snoc 0 (leading w (n / 10)) (cond (eqb n 0) 32 (48 + n % 10))
    ∙ ap (λ (v : ℕ). digit_step_lem v (cond (eqb n 0) 32 (48 + n % 10))) (read-leading w (n / 10) (omega arith) wide)
    ∙ last (dec_lt 0 n)
  where
    last : Dec (0 < n) → digit_step_lem (n / 10) (cond (eqb n 0) 32 (48 + n % 10)) ≡ n
    last (yes p) = rw (ne_eqb n 0 (λ e. omega arith)) (digit-step (n / 10) (n % 10) (omega arith) (omega arith) ∙ omega arith)
    last (no p) = let e : n ≡ 0 = omega arith in rw e (blank_step 0 (omega arith))

read-field : (n : ℕ) → n ≤ 32768 → read_digits 0 (field n) ≡ n
unfolding field
read-field n h =
    read-snoc 0 (leading 19 (n / 10)) (48 + n % 10)
    ∙ ap (λ (v : ℕ). digit_step_lem v (48 + n % 10)) (read-leading 19 (n / 10) (omega arith) (omega arith))
    ∙ digit-step (n / 10) (n % 10) (omega arith) (omega arith) ∙ omega arith

-- the headers of n rows tell n
pub told-candidate : (n : ℕ) (x : List ℕ) → n ≤ 32768 → candidate (headers n ++ x) ≡ n
unfolding candidate headers
told-candidate n x h =
    ap (λ (l : List ℕ). read_digits 0 (take 20 (drop 3210 l))) (append_assoc front (field n ++ behind) x)
    ∙ ap (λ (l : List ℕ). read_digits 0 (take 20 l)) (drop_at front (field n ++ behind ++ x) 3210 front_long)
    ∙ ap (λ (l : List ℕ). read_digits 0 (take 20 l)) (append_assoc (field n) behind x)
    ∙ ap (read_digits 0) (take_at (field n) (behind ++ x) 20 (length-field n))
    ∙ read-field n h

pub table_long : (rs : List (ℕ × ℕ)) → length (table_of rs) ≡ table_length (length rs)
unfolding table_of
table_long rs =
    length-append (headers (length rs)) (rows_bytes rs ++ pad)
    ∙ omega (arith, headers-long (length rs), length-append (rows_bytes rs) pad, length-rows rs, length-replicate {A = ℕ} (blocks_of (12 * length rs) - 12 * length rs) 0)
  where
    pad : List ℕ
    pad = replicate (blocks_of (12 * length rs) - 12 * length rs) 0

-- what a writer puts out is not refused with 10
pub told-table : (rs : List (ℕ × ℕ)) → length rs ≤ 32768 → table_in (table_of rs) ≡ Rows (length rs)
unfolding table_of
told-table rs h =
    sym (told-rows T (omega (arith, size)) (rw is h) same (size ∙ ap table_length (sym is))) ∙ ap Rows is
  where
    pad : List ℕ
    pad = replicate (blocks_of (12 * length rs) - 12 * length rs) 0

    T : List ℕ
    T = headers (length rs) ++ (rows_bytes rs ++ pad)

    is : candidate T ≡ length rs
    is = told-candidate (length rs) (rows_bytes rs ++ pad) h

    size : length T ≡ table_length (length rs)
    size = table_long rs

    same : alike (take 5760 T) (headers (candidate T)) ≡ true
    same =
        ap (λ (k : ℕ). alike (take 5760 T) (headers k)) is
        ∙ ap (λ (l : List ℕ). alike l (headers (length rs))) (take_at (headers (length rs)) (rows_bytes rs ++ pad) 5760 (headers-long (length rs)))
        ∙ alike_self (headers (length rs))
