-- A part of a list replaced, a list with zeros behind, and lists compared. Assumes nothing.
use Rattle.std.specs.Prelude.{Bool, true, false, ◌&&◌, ◌||◌, List, [], ◌∷◌, ◌++◌, ℕ, ◌+◌, ◌-◌, eqb, length, take, drop, replicate}

-- d with s in the place of its items from `at` on
unfoldable pub written : {A : Type 0} → ℕ → List A → List A → List A
written at s d = take at d ++ (s ++ drop (at + length s) d)

-- zeros behind l, to n items
unfoldable pub padded : ℕ → List ℕ → List ℕ
padded n l = l ++ replicate (n - length l) 0

-- the same items
unfoldable pub alike : List ℕ → List ℕ → Bool
alike [] [] = true
alike [] (y ∷ ys) = false
alike (x ∷ xs) [] = false
alike (x ∷ xs) (y ∷ ys) = eqb x y && alike xs ys

-- x is one of the items
unfoldable pub among : ℕ → List ℕ → Bool
among x [] = false
among x (y ∷ l) = eqb y x || among x l
