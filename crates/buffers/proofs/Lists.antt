-- Laws of lists that the library lacks: parts of parts, mapped parts, and places that are not there.
use mathlib.Core.Path.{◌≡◌, refl, sym, ap, ◌∙◌}
use mathlib.Core.Bool.{true, false≢true}
use mathlib.Core.List.{List, [], ◌∷◌, ◌++◌, map}
use Prim.Native.Nat.{ℕ, zero, suc, ◌-◌, ◌≤◌, ◌<◌}
use native.Mathlib.Nat.{not-suc-le-zero, sub-zero, zero-sub, suc-sub-suc}
use native.Mathlib.Omega.{arith}
use lib.Dec.{eqb}
use lib.ListN.{length, get_or, take, drop, replicate, length-append, length-replicate}
use lib.Seq.{take-nil}
use borrow.Author.Tests.{eqb-true, eq-eqb}
use Rattle.buffers.specs.Lists.{padded, alike}
use Rattle.buffers.proofs.Tests.{and-true}

pub drop-take : {A : Type 0} (f t : ℕ) (l : List A) → drop f (take t l) ≡ take (t - f) (drop f l)
drop-take zero t l = rw (sub-zero t)
drop-take (suc f) zero l = rw (zero-sub (suc f))
drop-take (suc f) (suc t) [] = sym (take-nil (suc t - suc f))
drop-take (suc f) (suc t) (x ∷ l) = rw (suc-sub-suc t f) (drop-take f t l)

pub map-take : {A B : Type 0} (f : A → B) (n : ℕ) (l : List A) → take n (map f l) ≡ map f (take n l)
map-take f zero l = refl
map-take f (suc n) [] = refl
map-take {A} {B} f (suc n) (x ∷ l) = ap (λ (m : List B). f x ∷ m) (map-take f n l)

pub map-drop : {A B : Type 0} (f : A → B) (n : ℕ) (l : List A) → drop n (map f l) ≡ map f (drop n l)
map-drop f zero l = refl
map-drop f (suc n) [] = refl
map-drop f (suc n) (x ∷ l) = map-drop f n l

pub map-item : (f : ℕ → ℕ) (l : List ℕ) (j : ℕ) → j < length l → get_or (map f l) j 0 ≡ f (get_or l j 0)
map-item f [] j h = absurd (not-suc-le-zero h)
map-item f (x ∷ l) zero h = refl
map-item f (x ∷ l) (suc j) h = map-item f l j (omega arith)

-- within a list the default is not met
pub within : (l : List ℕ) (new item : ℕ) → item < length l → get_or l item new ≡ get_or l item 0
within [] new item h = absurd (not-suc-le-zero h)
within (x ∷ xs) new zero h = refl
within (x ∷ xs) new (suc i) h = within xs new i (omega arith)

pub zeros-item : (n i : ℕ) → get_or (replicate {A = ℕ} n 0) i 0 ≡ 0
zeros-item zero i = refl
zeros-item (suc n) zero = refl
zeros-item (suc n) (suc i) = zeros-item n i

-- zeros behind a list read as what is not there
pub padded-item : (n : ℕ) (l : List ℕ) (i : ℕ) → get_or (padded n l) i 0 ≡ get_or l i 0
unfolding padded
padded-item n l i = go l (n - length l) i
  where
    go : (l : List ℕ) (z i : ℕ) → get_or (l ++ replicate z 0) i 0 ≡ get_or l i 0
    go [] z i = zeros-item z i
    go (x ∷ l) z zero = refl
    go (x ∷ l) z (suc i) = go l z i

pub length-padded : (n : ℕ) (l : List ℕ) → length l ≤ n → length (padded n l) ≡ n
unfolding padded
length-padded n l h = length-append l (replicate (n - length l) 0) ∙ omega (arith, length-replicate {A = ℕ} (n - length l) 0)

-- lists compared
pub alike_self : (l : List ℕ) → alike l l ≡ true
unfolding alike
alike_self [] = refl
alike_self (x ∷ xs) = rw (eq-eqb x x refl) (alike_self xs)

pub alike_same : (k l : List ℕ) → alike k l ≡ true → k ≡ l
unfolding alike
alike_same [] [] e = refl
alike_same [] (y ∷ ys) e = absurd (false≢true e)
alike_same (x ∷ xs) [] e = absurd (false≢true e)
alike_same (x ∷ xs) (y ∷ ys) e =
    let both = and-true (eqb x y) (alike xs ys) e in
    ap (λ (z : ℕ). z ∷ xs) (eqb-true x y both.0) ∙ ap (λ (l : List ℕ). y ∷ l) (alike_same xs ys both.1)
