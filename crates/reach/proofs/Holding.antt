-- Which page holds a number, of pages of which some were replaced.
use mathlib.Core.Path.{◌≡◌, refl, ap, ◌∙◌}
use mathlib.Core.Bool.{Bool, true, false, cond, or-true}
use mathlib.Core.List.Memᴰ
use mathlib.Core.List.{List, [], ◌∷◌, ◌++◌, append-nil, Memᴰ}
use mathlib.Core.Logic.{⊎_elim}
use Prim.Native.Nat.{ℕ, zero, suc, ◌+◌, ◌≤◌, ◌<◌}
use native.Mathlib.Nat.{zero-add, add-zero}
use native.Mathlib.Omega.{arith}
use lib.Dec.{eqb}
use lib.ListN.{length, take, drop, get_or, length-append}
use lib.Seq.{length-take-le}
use borrow.Author.Tests.{eq-eqb, ne_eqb}
use Rattle.buffers.specs.Lists.{written}
use Rattle.placement.specs.Rule.{Star, Hash, Contents, staying, passing, separator_of, contents_of, onward, pages, left}
use Rattle.placement.specs.Shape.{blank}
use Rattle.placement.proofs.Filters.{member_filter}
use Rattle.placement.proofs.Separator.{stays}
use Rattle.placement.proofs.Composition.{length-pages}
use Rattle.placement.proofs.Standing.{looked_up_lem}
use Rattle.placement.proofs.Order.{Absent}
use Rattle.reach.specs.Reach.{has_number, holding}

-- a list has its members' numbers
pub member_has : (l : List Star) (s : Star) → Memᴰ s l → has_number s.number l ≡ true
unfolding has_number
member_has [] s m = absurd (Memᴰ.not-nil m)
member_has (t ∷ l) s m = ⊎_elim (λ (e : s ≡ t). rw (← e, eq-eqb s.number s.number refl)) (λ (n : Memᴰ s l). rw (member_has l s n) (or-true (eqb t.number s.number))) (Memᴰ.cases_cons m)

has_not : (k : ℕ) (l : List Star) → Absent k l → has_number k l ≡ false
unfolding has_number
has_not k [] a = refl
has_not k (t ∷ l) a = rw (ne_eqb t.number k (a t (Memᴰ.head refl))) (has_not k l (λ u m. a u (Memᴰ.tail m)))

-- No page has the number.
abbrev Lacks : ℕ → List Contents → Type 0
Lacks k [] = Unit {0}
Lacks k (c ∷ cs) = (has_number k c.stars ≡ false) × Lacks k cs

lacks_pages : (H : Hash) (p n k : ℕ) (w : List Star) → Absent k w → Lacks k (pages H p n w)
unfolding pages contents_of onward staying passing
lacks_pages H p zero k w a = tt
lacks_pages H p (suc n) k w a = (
  has_not k (staying H p (separator_of H p w) w) (λ t m. a t (member_filter (stays H p (separator_of H p w)) w t m).0),
  lacks_pages H (suc p) n k (onward H p w) (λ t m. a t (member_filter _ w t m).0),
)

lacks_take : (k n : ℕ) (cs : List Contents) → Lacks k cs → Lacks k (take n cs)
lacks_take k zero cs h = tt
lacks_take k (suc n) [] h = tt
lacks_take k (suc n) (c ∷ cs) h = (h.0, lacks_take k n cs h.1)

lacks_drop : (k n : ℕ) (cs : List Contents) → Lacks k cs → Lacks k (drop n cs)
lacks_drop k zero cs h = h
lacks_drop k (suc n) [] h = tt
lacks_drop k (suc n) (c ∷ cs) h = lacks_drop k n cs h.1

holding-past : (k from : ℕ) (P Y : List Contents) → Lacks k P → holding k from (P ++ Y) ≡ holding k (from + length P) Y
unfolding holding
holding-past k from [] Y h = rw (add-zero from)
holding-past k from (c ∷ P) Y h =
    let e : suc from + length P ≡ from + suc (length P) = omega arith in
    rw h.0 (holding-past k (suc from) P Y h.1 ∙ ap (λ (i : ℕ). holding k i Y) e)

holding-within : (k from : ℕ) (X R : List Contents) → Lacks k R → holding k from (X ++ R) < from + length (X ++ R) → holding k from (X ++ R) ≡ holding k from X
unfolding holding
holding-within k from [] R h g = absurd (omega (arith, rw (append-nil R) at (holding-past k from R [] h)))
holding-within k from (c ∷ X) R h g = go (has_number k c.stars) g (holding-within k (suc from) X R h)
  where
    go : (t : Bool) → cond t from (holding k (suc from) (X ++ R)) < from + suc (length (X ++ R))
        → (holding k (suc from) (X ++ R) < suc from + length (X ++ R) → holding k (suc from) (X ++ R) ≡ holding k (suc from) X)
        → cond t from (holding k (suc from) (X ++ R)) ≡ cond t from (holding k (suc from) X)
    go true g ih = refl
    go false g ih = ih (omega arith)

holding-inside : (k from i : ℕ) (cs : List Contents) → i < length cs → has_number k (get_or cs i blank).stars ≡ true → holding k from cs < from + length cs
unfolding holding
holding-inside k from i [] h e = absurd (omega arith)
holding-inside k from zero (c ∷ cs) h e = rw e (omega arith)
holding-inside k from (suc i) (c ∷ cs) h e = go (has_number k c.stars) (holding-inside k (suc from) i cs (omega arith) e)
  where
    go : (t : Bool) → holding k (suc from) cs < suc from + length cs → cond t from (holding k (suc from) cs) < from + suc (length cs)
    go true ih = omega arith
    go false ih = omega arith

-- A new star on pages of which those from a on were replaced by X: it stands on one of X.
pub holding-written : (H : Hash) (M a : ℕ) (t u : List Star) (s : Star) (X : List Contents) → Absent s.number t → a ≤ M
    → pages H 0 M u ≡ written a X (pages H 0 M t) → left H 0 M u ≡ [] → Memᴰ s u
    → holding s.number 0 (pages H 0 M u) ≡ holding s.number a X
unfolding written
holding-written H M a t u s X absent h e fits m =
    skipped ∙ holding-within k a X R (lacks_drop k (a + length X) D lacks)
    (omega (arith, skipped, inside, ap length e, size, length-append P (X ++ R)))
  where
    k : ℕ
    k = s.number

    D : List Contents
    D = pages H 0 M t

    P : List Contents
    P = take a D

    R : List Contents
    R = drop (a + length X) D

    lacks : Lacks k D
    lacks = lacks_pages H 0 M k t absent

    size : length P ≡ a
    size = length-take-le a D (omega (arith, length-pages H 0 M t))

    inside : holding k 0 (pages H 0 M u) < 0 + length (pages H 0 M u)
    inside =
        let r = looked_up_lem H 0 M u s fits m in
        holding-inside k 0 r.0 (pages H 0 M u) (omega (arith, r.1, length-pages H 0 M u)) (member_has (get_or (pages H 0 M u) r.0 blank).stars s r.3)

    skipped : holding k 0 (pages H 0 M u) ≡ holding k a (X ++ R)
    skipped = ap (holding k 0) e ∙ holding-past k 0 P (X ++ R) (lacks_take k a D lacks) ∙ ap (λ (i : ℕ). holding k i (X ++ R)) (zero-add (length P) ∙ size)
