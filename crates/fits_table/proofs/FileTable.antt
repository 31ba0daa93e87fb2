-- A file whose pages are sound: its rows rise and are valid.
-- Assumes nothing.
use mathlib.Core.Path.{◌≡◌}
use mathlib.Core.Bool.{true}
use mathlib.Core.List.{List, [], ◌∷◌, map, Memᴰ}
use mathlib.Core.Path.{refl}
use Prim.Native.Nat.{ℕ, suc, ◌≤◌, ◌<◌}
use native.Mathlib.Omega.{arith}
use borrow.Author.Tests.{le-leb}
use Rattle.pages.specs.Position.{valid_number, valid_word}
use Rattle.placement.specs.Rule.{Star, Hash}
use Rattle.placement.specs.File.{File, gathered}
use Rattle.placement.specs.Shape.{Sized}
use Rattle.placement.proofs.Order.{Rising}
use Rattle.placement.proofs.Pages.{Proper}
use Rattle.placement.proofs.Sound.{AllSound, gathered-rising, gathered-proper}
use Rattle.fits_table.specs.Rows.{row_of_star}
use Rattle.fits_table.specs.Shape.{rows_in, RowsUp}
use Rattle.fits_table.proofs.FileRows.{file-rows}

number-valid : (n : ℕ) → 1 ≤ n → n ≤ 2147483646 → valid_number n ≡ true
unfolding valid_number
number-valid n a b = rw (le-leb 1 n a, le-leb n 2147483646 b)

rows-up : (l : List Star) (last k : ℕ) → last < k → Rising k l → Proper valid_word l → RowsUp last (map row_of_star l)
rows-up [] last k h r p = tt
rows-up (s ∷ l) last k h r p =
    let g = p s (Memᴰ.head refl) in
    (omega (arith, r.0), (number-valid s.number g.0 g.1, (g.2, rows-up l s.number (suc s.number) (omega arith) r.1 (λ t m. p t (Memᴰ.tail m)))))

-- of stars by number that are valid
pub stars-up : (l : List Star) → Rising 0 l → Proper valid_word l → RowsUp 0 (map row_of_star l)
stars-up [] r p = tt
stars-up (s ∷ l) r p = rows-up (s ∷ l) 0 1 (omega arith) ((p s (Memᴰ.head refl)).0, r.1) p

-- The rows of sound pages rise and are valid: what `put_table` asks, and what the reader tests.
pub file-up : (H : Hash) (M : ℕ) (f : File) → Sized H.room M f → AllSound valid_word H f 0 M → RowsUp 0 (rows_in f.numbers f.words)
file-up H M f z a = rw (← file-rows H.room M f z) (stars-up (gathered H.room f 0 M) (gathered-rising valid_word H f 0 M a) (gathered-proper valid_word H f 0 M a))
