-- The count of a word's ones, and of a filter's.
use mathlib.Core.Path.{◌≡◌, refl, sym, ap, ◌∙◌}
use mathlib.Core.List.{List, [], ◌∷◌, ◌++◌}
use Prim.Native.Nat.{ℕ, zero, suc, ◌+◌, ◌*◌, ◌/◌, ◌%◌, ◌^◌, ◌≤◌, ◌<◌}
use native.Mathlib.Nat.{pow-succ'}
use native.Mathlib.Omega.{arith}
use lib.Count.{ones_in, ones_step}
use lib.Count.{ones as Count·ones}
use lib.ListN.{length}
use Rattle.std.specs.List.{sum_by}
use Rattle.std.proofs.lemmas.List.Sums.{sum_by-cons}
use Rattle.reports.specs.Bits.{ones, bits_set}

no_ones : (w : ℕ) → w ≡ 0 → Count·ones w ≡ 0
unfolding Count·ones ones_in
no_ones w e = rw e

pub count_ones : (n w : ℕ) → w < 2 ^ n → Count·ones w ≡ ones w n
unfolding ones
count_ones zero w h = no_ones w (omega (arith, h))
count_ones (suc n) w h = ones_step w ∙ ap (λ (m : ℕ). w % 2 + m) (count_ones n (w / 2) (omega (arith, h, pow-succ' 2 n)))

ones_most : (n w : ℕ) → ones w n ≤ n
unfolding ones
ones_most zero w = omega arith
ones_most (suc n) w = omega (arith, ones_most n (w / 2))

-- the words' counts together
pub set_sum : (xs : List ℕ) → bits_set xs ≡ sum_by (λ w. ones w 64) xs
unfolding bits_set
set_sum [] = refl
set_sum (x ∷ xs) = rw (sum_by-cons (λ w. ones w 64) x xs, set_sum xs)

pub few_ones : (xs : List ℕ) → bits_set xs ≤ 64 * length xs
unfolding bits_set
few_ones [] = omega arith
few_ones (x ∷ xs) = omega (arith, few_ones xs, ones_most 64 x)
