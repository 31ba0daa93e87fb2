-- Each of a table's good rows, read by itself.
-- Assumes nothing.
use mathlib.Core.Path.{◌≡◌, refl}
use mathlib.Core.Bool.{Bool, true, false, ◌&&◌, false≢true}
use mathlib.Core.List.{List}
use Prim.Native.Nat.{ℕ, zero, suc, ◌+◌, ◌*◌, ◌<◌}
use native.Mathlib.Omega.{arith}
use lib.Dec.{ltb}
use borrow.Author.Tests.{ltb-true, lt-ltb}
use Rattle.buffers.proofs.Tests.{and-true}
use Rattle.pages.specs.Position.{valid_number, valid_position, valid_word, packed}
use Rattle.pages.proofs.Words.{pack-valid}
use Rattle.fits_table.specs.declared.rows.Row.TheVariants.{Star}
use Rattle.fits_table.specs.Rows.{from32, position_at, row_answer, row_at, good_after, good_rows}

pub step : (at i : ℕ) → at + 12 + 12 * i ≡ at + 12 * suc i
step at i = omega arith

-- it is the star that its bytes say
pub good-row : (l : List ℕ) (n last at i : ℕ) → good_rows last l at n ≡ true → i < n
    → row_at 0 l (at + 12 * i) ≡ Star (from32 l (at + 12 * i)) (packed (position_at l (at + 12 * i)))
unfolding good_rows row_at
good-row l zero last at i g h = absurd (omega arith)
good-row l (suc n) last at i g h =
    go (ltb last (from32 l at) && (valid_number (from32 l at) && valid_position (position_at l at))) refl g i h
    (λ j e k. good-row l n (from32 l at) (at + 12) j e k)
  where
    first : ltb last (from32 l at) && (valid_number (from32 l at) && valid_position (position_at l at)) ≡ true
        → row_answer (ltb 0 (from32 l at) && (valid_number (from32 l at) && valid_position (position_at l at))) (from32 l at) (packed (position_at l at)) ≡ Star (from32 l at) (packed (position_at l at))
    first t =
        let p = and-true (ltb last (from32 l at)) (valid_number (from32 l at) && valid_position (position_at l at)) t in
        rw (lt-ltb 0 (from32 l at) (omega (arith, ltb-true last (from32 l at) p.0)), p.1)

    go : (t : Bool) → ltb last (from32 l at) && (valid_number (from32 l at) && valid_position (position_at l at)) ≡ t
        → good_after (row_answer t (from32 l at) (packed (position_at l at))) (λ (k : ℕ). good_rows k l (at + 12) n) ≡ true
        → (i : ℕ) → i < suc n
        → ((j : ℕ) → good_rows (from32 l at) l (at + 12) n ≡ true → j < n → row_at 0 l (at + 12 + 12 * j) ≡ Star (from32 l (at + 12 + 12 * j)) (packed (position_at l (at + 12 + 12 * j))))
        → row_at 0 l (at + 12 * i) ≡ Star (from32 l (at + 12 * i)) (packed (position_at l (at + 12 * i)))
    go false t e i h ih = absurd (false≢true e)
    go true t e zero h ih = let z : at + 12 * 0 ≡ at = omega arith in rw z (first t)
    go true t e (suc i) h ih = rw (← step at i) (ih i e (omega arith))

-- and its word is valid
pub star-valid : (last : ℕ) (l : List ℕ) (at n w : ℕ) → row_at last l at ≡ Star n w → valid_word w ≡ true
unfolding row_at
star-valid last l at n w e = go (ltb last (from32 l at) && (valid_number (from32 l at) && valid_position (position_at l at))) refl e
  where
    go : (t : Bool) → ltb last (from32 l at) && (valid_number (from32 l at) && valid_position (position_at l at)) ≡ t
        → row_answer t (from32 l at) (packed (position_at l at)) ≡ Star n w → valid_word w ≡ true
    go true t e =
        let is : packed (position_at l at) ≡ w = cc in
        let tests = and-true (ltb last (from32 l at)) (valid_number (from32 l at) && valid_position (position_at l at)) t in
        rw (← is) (pack-valid (position_at l at) (and-true (valid_number (from32 l at)) (valid_position (position_at l at)) tests.1).1)
    go false t e = let z : ◌≡◌ {A = ℕ} 0 1 = cc in absurd (omega arith)
