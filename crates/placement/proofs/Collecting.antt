-- The stars of the pages, inserted one by one, give the waiting list back.
use mathlib.Core.Path.{◌≡◌, refl, sym, ap, ◌∙◌}
use mathlib.Core.Bool.{not}
use mathlib.Core.List.{List, [], ◌∷◌, ◌++◌}
use Prim.Native.Nat.{ℕ, zero, suc, ◌+◌, ◌≤◌}
use native.Mathlib.Omega.{arith}
use borrow.Author.Tests.{lt-ltb}
use Rattle.placement.specs.Rule.{Star, Hash, Contents, filter, staying, passing, separator_of, contents_of, onward, pages, left, pour}
use Rattle.placement.specs.Shape.{collected}
use Rattle.placement.proofs.Filters.{filter-within}
use Rattle.placement.proofs.Separator.{stays, below-home}
use Rattle.placement.proofs.Irrelevance.{near}
use Rattle.placement.proofs.Order.{Sorted, Rising, sorted-pour, rising-filter, sorted_filter, filter-pour, pour-split, pour-pour, pour-nil}

pub sorted-collected : (cs : List Contents) → Sorted 0 (collected cs)
unfolding collected
sorted-collected [] = tt
sorted-collected (c ∷ cs) = sorted-pour c.stars (collected cs) (sorted-collected cs)

pub collected-append : (cs ds : List Contents) → collected (cs ++ ds) ≡ pour (collected cs) (collected ds)
unfolding collected pour
collected-append [] ds = refl
collected-append (c ∷ cs) ds = ap (pour c.stars) (collected-append cs ds) ∙ sym (pour-pour c.stars (collected cs) (collected ds))

pub rising-left : (H : Hash) (p n k : ℕ) (w : List Star) → Rising k w → Rising k (left H p n w)
unfolding left onward passing
rising-left H p zero k w r = r
rising-left H p (suc n) k w r = rising-left H (suc p) n k (onward H p w) (rising-filter k (λ (s : Star). not (stays H p (separator_of H p w) s)) w r)

pub sorted-left : (H : Hash) (p n k : ℕ) (w : List Star) → Sorted k w → Sorted k (left H p n w)
unfolding left onward passing
sorted-left H p zero k w r = r
sorted-left H p (suc n) k w r = sorted-left H (suc p) n k (onward H p w) (sorted_filter k (λ (s : Star). not (stays H p (separator_of H p w) s)) w r)

-- What stands and what is left make the waiting list.
pub gathered-all : (H : Hash) (p n k : ℕ) (w : List Star) → Rising k w → pour (collected (pages H p n w)) (left H p n w) ≡ w
unfolding pages left collected contents_of onward passing staying pour
gathered-all H p zero k w r = refl
gathered-all H p (suc n) k w r =
    pour-pour (filter (stays H p (separator_of H p w)) w) (collected (pages H (suc p) n (onward H p w))) (left H (suc p) n (onward H p w))
    ∙ ap (pour (filter (stays H p (separator_of H p w)) w)) (gathered-all H (suc p) n k (onward H p w) (rising-filter k (λ (s : Star). not (stays H p (separator_of H p w) s)) w r))
    ∙ pour-split k (stays H p (separator_of H p w)) w r

-- With nothing left, what stands is the waiting list.
pub on-all : (H : Hash) (p n k : ℕ) (w : List Star) → Rising k w → left H p n w ≡ [] → collected (pages H p n w) ≡ w
on-all H p n k w r e =
    sym (pour-nil 0 (collected (pages H p n w)) (sorted-collected (pages H p n w)))
    ∙ (rw e at (gathered-all H p n k w r))

-- Those who stand are homed below the end of the stretch.
pub collected-near : (H : Hash) (p n e : ℕ) (w : List Star) → p + n ≤ e → filter (near H e) (collected (pages H p n w)) ≡ collected (pages H p n w)
unfolding pages collected contents_of staying filter
collected-near H p zero e w h = refl
collected-near H p (suc n) e w h =
    filter-pour (near H e) (filter (stays H p (separator_of H p w)) w) (collected (pages H (suc p) n (onward H p w))) (sorted-collected (pages H (suc p) n (onward H p w)))
    ∙ ap (λ (l : List Star). pour l (filter (near H e) (collected (pages H (suc p) n (onward H p w))))) (filter-within (stays H p (separator_of H p w)) (near H e) (λ s g. lt-ltb (H.home s.number) e (omega (arith, below-home H p (separator_of H p w) s.number g))) w)
    ∙ ap (pour (filter (stays H p (separator_of H p w)) w)) (collected-near H (suc p) n e (onward H p w) (omega arith))
