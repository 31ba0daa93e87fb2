-- A change of stars homed at one page reaches no further than the stretch that settles it.
use mathlib.Core.Path.{◌≡◌, refl, sym, ap, ◌∙◌}
use mathlib.Core.Bool.{Bool, true, false, not, ◌&&◌}
use mathlib.Core.List.{List, [], ◌∷◌, ◌++◌}
use Prim.Native.Nat.{ℕ, suc, ◌+◌, ◌<◌}
use native.Mathlib.Nat.{zero-add}
use native.Mathlib.Decide.{dec_lt}
use native.Mathlib.Omega.{arith}
use lib.Dec.{eqb}
use lib.ListN.{length, get_or}
use borrow.Author.Tests.{lt-ltb, le-ltb, eqb-true, ne_eqb, eq-eqb}
use Rattle.buffers.proofs.Written.{written-middle}
use Rattle.buffers.specs.Lists.{written}
use Rattle.placement.specs.Rule.{Star, Hash, Contents, separators, filter, pages, left, first, insert, pour, without}
use Rattle.placement.specs.Shape.{collected}
use Rattle.placement.proofs.Filters.{Within, filter_none, filter_comm, filter-filter, filter-within, filter-absorb, filter-rest}
use Rattle.placement.proofs.Separator.{Bounded}
use Rattle.placement.proofs.Composition.{left-add, pages-add, length-pages}
use Rattle.placement.proofs.Irrelevance.{Covers, near, far, near-covers, far-home, pages-irr, left-irr, left_far}
use Rattle.placement.proofs.Standing.{stands_at, left-first, first-le, first_home, past_top, length-separators}
use Rattle.placement.proofs.Domination.{left-part}
use Rattle.placement.proofs.Order.{Sorted, sorted-less, Rising, rising-sorted, filter-insert, filter-insert-out, filter-pour, pour-nil}
use Rattle.placement.proofs.Collecting.{gathered-all, on-all, sorted-collected, collected-near, rising-left, sorted-left}

-- Stars homed above a stretch, poured in beforehand or afterwards.
pub pages-over : (H : Hash) (p n : ℕ) (B w : List Star) → Sorted 0 w → filter (near H (p + n)) B ≡ [] → pages H p n (pour B w) ≡ pages H p n w
unfolding pour
pages-over H p n B w r e =
    sym (pages-irr H p n (near H (p + n)) (near-covers H (p + n)) (pour B w))
    ∙ ap (pages H p n) (filter-pour (near H (p + n)) B w r ∙ ap (λ (l : List Star). pour l (filter (near H (p + n)) w)) e)
    ∙ pages-irr H p n (near H (p + n)) (near-covers H (p + n)) w

pub left_over : (H : Hash) (p n : ℕ) (B w : List Star) → Sorted 0 w → filter (near H (p + n)) B ≡ [] → left H p n (pour B w) ≡ pour B (left H p n w)
left_over H p n B w r e =
    left-first H p n (pour B w)
    ∙ ap (λ (cs : List Contents). filter (stands_at H p (separators cs) (p + n)) (pour B w)) (pages-over H p n B w r e)
    ∙ filter-pour end B w r
    ∙ ap (λ (l : List Star). pour l (filter end w)) (ap (filter end) (sym away) ∙ filter-within (far H (p + n)) end ends B ∙ away)
    ∙ ap (pour B) (sym (left-first H p n w))
  where
    vs : List ℕ
    vs = separators (pages H p n w)

    end : Star → Bool
    end = stands_at H p vs (p + n)

    away : filter (far H (p + n)) B ≡ B
    away = filter-rest (near H (p + n)) B e

    size : length vs ≡ n
    size = length-separators (pages H p n w) ∙ length-pages H p n w

    ends : Within (far H (p + n)) end
    ends s g = eq-eqb (first H p vs s.number) (p + n) (go (dec_lt (first H p vs s.number) (p + length vs)))
      where
        go : Dec (first H p vs s.number < p + length vs) → first H p vs s.number ≡ p + n
        go (yes d) = absurd (omega (arith, size, first_home H p vs s.number d, far-home H (p + n) s g))
        go (no d) = omega (arith, size, first-le H p vs s.number)

-- Block by block: the stars B of the second stretch, homed above the first, wait with what the first leaves.
pub blocks-pages : (H : Hash) (p n m : ℕ) (B A : List Star) → Sorted 0 A → filter (near H (p + n)) B ≡ []
    → pages H p (n + m) (pour B A) ≡ pages H p n A ++ pages H (p + n) m (pour B (left H p n A))
blocks-pages H p n m B A r e = pages-add H p n m (pour B A) ∙ rw (pages-over H p n B A r e, left_over H p n B A r e)

pub blocks-left : (H : Hash) (p n m : ℕ) (B A : List Star) → Sorted 0 A → filter (near H (p + n)) B ≡ []
    → left H p (n + m) (pour B A) ≡ left H (p + n) m (pour B (left H p n A))
blocks-left H p n m B A r e = left-add H p n m (pour B A) ∙ rw (left_over H p n B A r e)

-- A stretch whose end is passed by stars homed above it alone.
abbrev pub Ended : Hash → ℕ → ℕ → List Star → Type 0
Ended H p n w = filter (near H (p + n)) (left H p n w) ≡ []

-- So it is if its last separator is top, or if nothing is left.
pub ended-top : (H : Hash) → Bounded H → (p d : ℕ) (w : List Star) → get_or (separators (pages H p (suc d) w)) d 0 ≡ H.top → Ended H p (suc d) w
ended-top H b p d w e =
    ap (filter (near H (p + suc d))) (left-first H p (suc d) w)
    ∙ filter-filter (near H (p + suc d)) (stands_at H p vs (p + suc d)) w
    ∙ filter_none (λ (s : Star). stands_at H p vs (p + suc d) s && near H (p + suc d) s) (λ s. go s (stands_at H p vs (p + suc d) s) refl) w
  where
    vs : List ℕ
    vs = separators (pages H p (suc d) w)

    size : length vs ≡ suc d
    size = length-separators (pages H p (suc d) w) ∙ length-pages H p (suc d) w

    go : (s : Star) (t : Bool) → stands_at H p vs (p + suc d) s ≡ t → t && near H (p + suc d) s ≡ false
    go s true g =
        le-ltb (H.home s.number) (p + suc d)
        (omega (arith, past_top H b p d vs s.number (omega (arith, size)) e (omega (arith, eqb-true (first H p vs s.number) (p + suc d) g))))
    go s false g = refl

pub ended-empty : (H : Hash) (p n : ℕ) (w : List Star) → left H p n w ≡ [] → Ended H p n w
unfolding filter
ended-empty H p n w e = rw e

-- What stands on an ended stretch are the stars that wait for it and are homed below its end.
pub stretch : (H : Hash) (p n k : ℕ) (w : List Star) → Rising k w → Ended H p n w → collected (pages H p n w) ≡ filter (near H (p + n)) w
stretch H p n k w r e =
    sym
    (ap (filter (near H (p + n))) (sym (gathered-all H p n k w r))
    ∙ filter-pour (near H (p + n)) (collected (pages H p n w)) (left H p n w) (sorted-less 0 k (left H p n w) (omega arith) (rising-sorted k (left H p n w) (rising-left H p n k w r)))
    ∙ ap (pour (filter (near H (p + n)) (collected (pages H p n w)))) e
    ∙ ap (λ (l : List Star). pour l []) (collected-near H p n (p + n) w (omega arith))
    ∙ pour-nil 0 (collected (pages H p n w)) (sorted-collected (pages H p n w)))

-- Two lists that differ only in stars homed below the end of a stretch that ends for both are alike past it.
pub local-left : (H : Hash) (p n : ℕ) (w v : List Star) → filter (far H (p + n)) v ≡ filter (far H (p + n)) w → Ended H p n w → Ended H p n v
    → left H p n v ≡ left H p n w
local-left H p n w v e ew ev =
    sym (filter-rest (near H (p + n)) (left H p n v) ev)
    ∙ left_far H p n (far H (p + n)) (far-home H (p + n)) v
    ∙ e
    ∙ sym (left_far H p n (far H (p + n)) (far-home H (p + n)) w)
    ∙ filter-rest (near H (p + n)) (left H p n w) ew

split : (H : Hash) (a n m : ℕ) (t : List Star)
    → pages H 0 (a + (n + m)) t ≡ pages H 0 a t ++ (pages H a n (left H 0 a t) ++ pages H (a + n) m (left H a n (left H 0 a t)))
split H a n m t = pages-add H 0 a (n + m) t ∙ rw (zero-add a, pages-add H a n m (left H 0 a t))

split-left : (H : Hash) (a n m : ℕ) (t : List Star) → left H 0 (a + (n + m)) t ≡ left H (a + n) m (left H a n (left H 0 a t))
split-left H a n m t = left-add H 0 a (n + m) t ∙ rw (zero-add a, left-add H a n m (left H 0 a t))

-- A new list u in the place of t: alike below page a; from there on, A are u's waiting stars homed below the end a + n, and the others are alike.
pub local : (H : Hash) (a n m : ℕ) (t u A : List Star) → pages H 0 a u ≡ pages H 0 a t → filter (near H (a + n)) (left H 0 a u) ≡ A
    → filter (far H (a + n)) (left H 0 a u) ≡ filter (far H (a + n)) (left H 0 a t) → Ended H a n (left H 0 a t) → left H a n A ≡ []
    → (pages H 0 (a + (n + m)) u ≡ written a (pages H a n A) (pages H 0 (a + (n + m)) t)) × (left H 0 (a + (n + m)) u ≡ left H 0 (a + (n + m)) t)
local H a n m t u A low inside outside ended fits = (layout, split-left H a n m u ∙ ap (left H (a + n) m) same ∙ sym (split-left H a n m t))
  where
    T : List Star
    T = left H 0 a t

    U : List Star
    U = left H 0 a u

    settled : Ended H a n U
    settled = sym (left-irr H a n (near H (a + n)) (near-covers H (a + n)) U) ∙ ap (left H a n) inside ∙ fits

    same : left H a n U ≡ left H a n T
    same = local-left H a n T U outside ended settled

    middle : pages H a n U ≡ pages H a n A
    middle = sym (pages-irr H a n (near H (a + n)) (near-covers H (a + n)) U) ∙ ap (pages H a n) inside

    layout : pages H 0 (a + (n + m)) u ≡ written a (pages H a n A) (pages H 0 (a + (n + m)) t)
    layout =
        split H a n m u
        ∙ rw (low, middle, same)
        (sym
        (ap (written a (pages H a n A)) (split H a n m t)
        ∙ written-middle a (pages H 0 a t) (pages H a n T) (pages H a n A) (pages H (a + n) m (left H a n T)) (length-pages H 0 a t) (length-pages H a n A ∙ sym (length-pages H a n T))))

-- The stars that stand on the n pages from a of the layout of t.
abbrev pub standing : Hash → ℕ → ℕ → List Star → List Star
standing H a n t = collected (pages H a n (left H 0 a t))

one-far : (H : Hash) (a : ℕ) (s : Star) → H.home s.number ≡ a → filter (near H a) (s ∷ []) ≡ []
unfolding filter
one-far H a s e = rw (le-ltb (H.home s.number) a (omega arith))

left-insert : (H : Hash) (a : ℕ) (t : List Star) (s : Star) → Sorted 0 t → H.home s.number ≡ a → left H 0 a (insert s t) ≡ insert s (left H 0 a t)
unfolding pour
left-insert H a t s r e = left_over H 0 a (s ∷ []) t r (rw (zero-add a) (one-far H a s e))

pages-insert : (H : Hash) (a : ℕ) (t : List Star) (s : Star) → Sorted 0 t → H.home s.number ≡ a → pages H 0 a (insert s t) ≡ pages H 0 a t
unfolding pour
pages-insert H a t s r e = pages-over H 0 a (s ∷ []) t r (rw (zero-add a) (one-far H a s e))

-- Entry of s, homed at a, over an ended stretch that then leaves nothing.
pub enters : (H : Hash) (a n m : ℕ) (t : List Star) (s : Star) → Rising 0 t → H.home s.number ≡ a → 0 < n → Ended H a n (left H 0 a t)
    → left H a n (insert s (standing H a n t)) ≡ []
    → (pages H 0 (a + (n + m)) (insert s t) ≡ written a (pages H a n (insert s (standing H a n t))) (pages H 0 (a + (n + m)) t))
    × (left H 0 (a + (n + m)) (insert s t) ≡ left H 0 (a + (n + m)) t)
enters H a n m t s r e h ended fits =
    local H a n m t (insert s t) (insert s (standing H a n t)) (pages-insert H a t s sorted e)
    (ap (filter (near H (a + n))) (left-insert H a t s sorted e)
    ∙ filter-insert 0 (near H (a + n)) s (left H 0 a t) waiting (lt-ltb (H.home s.number) (a + n) (omega arith))
    ∙ ap (insert s) (sym (stretch H a n 0 (left H 0 a t) (rising-left H 0 a 0 t r) ended)))
    (ap (filter (far H (a + n))) (left-insert H a t s sorted e)
    ∙ filter-insert-out (far H (a + n)) s (left H 0 a t) (rw (lt-ltb (H.home s.number) (a + n) (omega arith))))
    ended
    fits
  where
    sorted : Sorted 0 t
    sorted = rising-sorted 0 t r

    waiting : Sorted 0 (left H 0 a t)
    waiting = sorted-left H 0 a 0 t sorted

-- With the stretch running to the last page, what the whole rule leaves is what the stretch leaves.
pub refused : (H : Hash) (a n : ℕ) (t : List Star) (s : Star) → Rising 0 t → H.home s.number ≡ a → left H 0 (a + n) t ≡ []
    → left H 0 (a + n) (insert s t) ≡ left H a n (insert s (standing H a n t))
refused H a n t s r e fits =
    left-add H 0 a n (insert s t)
    ∙ rw (zero-add a, left-insert H a t s (rising-sorted 0 t r) e)
    (ap (λ (l : List Star). left H a n (insert s l))
    (sym (on-all H a n 0 (left H 0 a t) (rising-left H 0 a 0 t r) (sym (rw (zero-add a) at (left-add H 0 a n t)) ∙ fits))))

-- Removal of the star of number k, homed at a, over an ended stretch. It always fits.
pub removes : (H : Hash) (a n m : ℕ) (t : List Star) (k : ℕ) → Rising 0 t → H.home k ≡ a → 0 < n → Ended H a n (left H 0 a t)
    → (left H a n (without k (standing H a n t)) ≡ [])
    × (pages H 0 (a + (n + m)) (without k t) ≡ written a (pages H a n (without k (standing H a n t))) (pages H 0 (a + (n + m)) t))
    × (left H 0 (a + (n + m)) (without k t) ≡ left H 0 (a + (n + m)) t)
unfolding without
removes H a n m t k r e h ended = (fits, both.0, both.1)
  where
    other : Star → Bool
    other s = not (eqb s.number k)

    W : List Star
    W = left H 0 a t

    A : List Star
    A = standing H a n t

    here : A ≡ filter (near H (a + n)) W
    here = stretch H a n 0 W (rising-left H 0 a 0 t r) ended

    low : Covers H (0 + a) other
    low s g = rw (ne_eqb s.number k (λ d. omega (arith, zero-add a, ap H.home d)))

    high : Within (far H (a + n)) other
    high s g = rw (ne_eqb s.number k (λ d. omega (arith, far-home H (a + n) s g, ap H.home d)))

    fits : left H a n (filter other A) ≡ []
    fits =
        left-part H a n other A
        (ap (left H a n) here ∙ left-irr H a n (near H (a + n)) (near-covers H (a + n)) W ∙ ended)

    both : (pages H 0 (a + (n + m)) (filter other t) ≡ written a (pages H a n (filter other A)) (pages H 0 (a + (n + m)) t))
        × (left H 0 (a + (n + m)) (filter other t) ≡ left H 0 (a + (n + m)) t)
    both =
        local H a n m t (filter other t) (filter other A) (pages-irr H 0 a other low t)
        (ap (filter (near H (a + n))) (left-irr H 0 a other low t) ∙ filter_comm (near H (a + n)) other W ∙ ap (filter other) (sym here))
        (ap (filter (far H (a + n))) (left-irr H 0 a other low t) ∙ filter-absorb (far H (a + n)) other high W)
        ended
        fits
