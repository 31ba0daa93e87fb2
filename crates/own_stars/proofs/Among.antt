-- Stars left out by their numbers, one number more or fewer.
use mathlib.Core.Path.{◌≡◌, refl, sym, ap, subst, ◌∙◌}
use mathlib.Core.Bool.{Bool, true, false, not, ◌||◌, ◌&&◌}
use mathlib.Core.List.{List, [], ◌∷◌, Memᴰ}
use mathlib.Core.Logic.{⊎_elim}
use Prim.Native.Nat.{ℕ}
use native.Mathlib.Omega.{arith}
use lib.Dec.{eqb}
use borrow.Author.Tests.{eqb-true, eqb-false, eq-eqb, ne_eqb, not-true}
use Rattle.buffers.specs.Lists.{among}
use Rattle.placement.specs.Rule.{Star, insert, without}
use Rattle.placement.proofs.Filters.{filter-ext_on, filter-filter, filter-all-on, member_filter, filter-member}
use Rattle.placement.proofs.Order.{Rising, Absent, rising-filter, rising-insert, rising-same, rising-without, member_insert, inserted, insert-keeps, member_without, without-member}
use Rattle.placement.proofs.Pages.{Numbered}
use Rattle.placement.proofs.Mixture.{rising-single}
use Rattle.own_stars.specs.Own.{apart_from}

other-head : (n k : ℕ) (ns : List ℕ) → (n ≡ k → ⊥) → among k (n ∷ ns) ≡ among k ns
unfolding among
other-head n k ns h = rw (ne_eqb n k h)

-- none is left out
pub apart_none : (w : List Star) → apart_from [] w ≡ w
unfolding apart_from among
apart_none w = filter-all-on (λ (s : Star). not (among s.number [])) w (λ s m. refl)

-- an empty place leaves none out
pub apart-zero : (ns : List ℕ) (w : List Star) → Numbered w → apart_from (0 ∷ ns) w ≡ apart_from ns w
unfolding apart_from
apart-zero ns w r =
    filter-ext_on (λ (s : Star). not (among s.number (0 ∷ ns))) (λ (s : Star). not (among s.number ns)) w
    (λ s m. ap not (other-head 0 s.number ns (λ e. omega (arith, r s m, e))))

none-and : (b : Bool) → false ≡ (b && false)
none-and true = refl
none-and false = refl

all-and : (b : Bool) → b ≡ (b && true)
all-and true = refl
all-and false = refl

neither : (n k : ℕ) (b : Bool) → not (eqb n k || b) ≡ (not b && not (eqb k n))
neither n k b = go (eqb n k) refl
  where
    go : (t : Bool) → eqb n k ≡ t → not (t || b) ≡ (not b && not (eqb k n))
    go true e = rw (eq-eqb k n (sym (eqb-true n k e))) (none-and (not b))
    go false e = rw (ne_eqb k n (λ d. eqb-false n k e (sym d))) (all-and (not b))

-- one number more
pub apart-without : (n : ℕ) (ns : List ℕ) (w : List Star) → apart_from (n ∷ ns) w ≡ without n (apart_from ns w)
unfolding apart_from without among
apart-without n ns w =
    filter-ext_on (λ (s : Star). not (eqb n s.number || among s.number ns)) (λ (s : Star). not (among s.number ns) && not (eqb s.number n)) w
    (λ s m. neither n s.number (among s.number ns))
    ∙ sym (filter-filter (λ (s : Star). not (eqb s.number n)) (λ (s : Star). not (among s.number ns)) w)

pub rising-apart : (ns : List ℕ) (w : List Star) → Rising 0 w → Rising 0 (apart_from ns w)
unfolding apart_from
rising-apart ns w r = rising-filter 0 (λ (s : Star). not (among s.number ns)) w r

pub apart-member : (ns : List ℕ) (w : List Star) (s : Star) → Memᴰ s (apart_from ns w) → Memᴰ s w × (among s.number ns ≡ false)
unfolding apart_from
apart-member ns w s m = let both = member_filter (λ (s : Star). not (among s.number ns)) w s m in (both.0, not-true (among s.number ns) both.1)

pub member_apart : (ns : List ℕ) (w : List Star) (s : Star) → Memᴰ s w → among s.number ns ≡ false → Memᴰ s (apart_from ns w)
unfolding apart_from
member_apart ns w s m e = filter-member (λ (s : Star). not (among s.number ns)) w s m (ap not e)

pub apart-absent : (n : ℕ) (ns : List ℕ) (w : List Star) → Absent n (apart_from (n ∷ ns) w)
apart-absent n ns w t m e = (member_without n (apart_from ns w) t (rw (apart-without n ns w) at m)).1 e

-- a star put back
back_in : (s : Star) (w : List Star) → Rising 0 w → Memᴰ s w → insert s (without s.number w) ≡ w
back_in s w r m =
    rising-same 0 0 (insert s (without s.number w)) w
    (rising-insert 0 s (without s.number w) (omega arith) (λ t n. (member_without s.number w t n).1) (rising-without 0 s.number w r)) r
    (λ t n. ⊎_elim (λ (e : t ≡ s). subst (λ (x : Star). Memᴰ x w) (sym e) m) (λ n. (member_without s.number w t n).0) (member_insert s (without s.number w) t n))
    (λ t n. go t n (eqb t.number s.number) refl)
  where
    go : (t : Star) → Memᴰ t w → (b : Bool) → eqb t.number s.number ≡ b → Memᴰ t (insert s (without s.number w))
    go t n true e = subst (λ (x : Star). Memᴰ x (insert s (without s.number w))) (rising-single 0 w r s t m n (sym (eqb-true t.number s.number e))) (inserted s (without s.number w))
    go t n false e = insert-keeps s (without s.number w) t (without-member s.number w t n (eqb-false t.number s.number e))

-- one number fewer
pub apart-insert : (s : Star) (ns : List ℕ) (w : List Star) → Rising 0 w → Memᴰ s w → among s.number ns ≡ false
    → insert s (apart_from (s.number ∷ ns) w) ≡ apart_from ns w
apart-insert s ns w r m e =
    ap (insert s) (apart-without s.number ns w)
    ∙ back_in s (apart_from ns w) (rising-apart ns w r) (member_apart ns w s m e)
