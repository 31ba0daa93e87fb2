-- Lists of numbers selected and judged by a test. Assumes nothing.
use Rattle.std.specs.Prelude.{Bool, true, ◌&&◌, cond, List, [], ◌∷◌, ℕ, zero, suc, ◌+◌, leb, ltb, eqb}

-- those that pass the test, in order
unfoldable pub selected : (ℕ → Bool) → List ℕ → List ℕ
selected q [] = []
selected q (x ∷ l) = cond (q x) (x ∷ selected q l) (selected q l)

-- those of which f is v
abbrev pub having : (ℕ → ℕ) → ℕ → List ℕ → List ℕ
having f v l = selected (λ x. eqb (f x) v) l

-- all pass the test
unfoldable pub all : (ℕ → Bool) → List ℕ → Bool
all q [] = true
all q (x ∷ l) = q x && all q l

-- all are below a bound
abbrev pub all_below : ℕ → List ℕ → Bool
all_below b l = all (λ x. ltb x b) l

-- the sum of the first n
unfoldable pub sum_to : ℕ → List ℕ → ℕ
sum_to zero l = zero
sum_to (suc n) [] = zero
sum_to (suc n) (x ∷ l) = x + sum_to n l

-- no number is below the one before it, nor the first below b
unfoldable pub rises : ℕ → List ℕ → Bool
rises b [] = true
rises b (x ∷ l) = leb b x && rises x l
