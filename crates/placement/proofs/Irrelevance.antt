-- Stars homed above a stretch do not matter to it: a test that fails only for such stars.
use mathlib.Core.Path.{◌≡◌, refl, ap, ◌∙◌}
use mathlib.Core.Bool.{Bool, true, false, not, false≢true}
use mathlib.Core.List.{List, ◌∷◌}
use Prim.Native.Nat.{ℕ, zero, suc, ◌+◌, ◌≤◌, ◌<◌}
use native.Mathlib.Omega.{arith}
use lib.Dec.{ltb}
use borrow.Author.Tests.{ltb-false, lt-ltb, le-ltb}
use Rattle.placement.specs.Rule.{Star, Hash, Contents, filter, staying, passing, separator_from, separator_of, contents_of, onward, pages, left}
use Rattle.placement.proofs.Filters.{filter_comm, filter-absorb}
use Rattle.placement.proofs.Separator.{stays, below-home, not_below-home}

-- Q holds of each star homed below page e.
abbrev pub Covers : Hash → ℕ → (Star → Bool) → Type 0
Covers H e Q = (s : Star) → H.home s.number < e → Q s ≡ true

-- The stars homed below page e, and the others.
abbrev pub near : Hash → ℕ → Star → Bool
near H e s = ltb (H.home s.number) e

abbrev pub far : Hash → ℕ → Star → Bool
far H e s = not (near H e s)

pub near-covers : (H : Hash) (e : ℕ) → Covers H e (near H e)
near-covers H e s h = lt-ltb (H.home s.number) e h

pub covers_less : (H : Hash) (d e : ℕ) (Q : Star → Bool) → d ≤ e → Covers H e Q → Covers H d Q
covers_less H d e Q h c s g = c s (omega arith)

pub is-far : (H : Hash) (e : ℕ) (s : Star) → e ≤ H.home s.number → far H e s ≡ true
is-far H e s h = rw (le-ltb (H.home s.number) e h)

pub far-home : (H : Hash) (e : ℕ) (s : Star) → far H e s ≡ true → e ≤ H.home s.number
far-home H e s h = go (near H e s) refl h
  where
    go : (t : Bool) → near H e s ≡ t → not t ≡ true → e ≤ H.home s.number
    go true g h = absurd (false≢true h)
    go false g h = ltb-false (H.home s.number) e g

module _ (H : Hash) (p : ℕ) (Q : Star → Bool) (c : Covers H (suc p) Q) where
  staying-irr : (v : ℕ) (w : List Star) → staying H p v (filter Q w) ≡ staying H p v w
  unfolding staying
  staying-irr v w = filter-absorb (stays H p v) Q (λ s e. c s (omega (arith, below-home H p v s.number e))) w

  from-irr : (w : List Star) (v : ℕ) → separator_from H p (filter Q w) v ≡ separator_from H p w v
  unfolding separator_from
  from-irr w zero = refl
  from-irr w (suc v) = rw (staying-irr (suc v) w, from-irr w v)

  sep-irr : (w : List Star) → separator_of H p (filter Q w) ≡ separator_of H p w
  unfolding separator_of
  sep-irr w = from-irr w H.top

  contents-irr : (w : List Star) → contents_of H p (filter Q w) ≡ contents_of H p w
  unfolding contents_of
  contents-irr w = rw (sep-irr w, staying-irr (separator_of H p w) w)

  onward-irr : (w : List Star) → onward H p (filter Q w) ≡ filter Q (onward H p w)
  unfolding onward passing
  onward-irr w = rw (sep-irr w) (filter_comm (λ (s : Star). not (stays H p (separator_of H p w) s)) Q w)

pub pages-irr : (H : Hash) (p n : ℕ) (Q : Star → Bool) → Covers H (p + n) Q → (w : List Star) → pages H p n (filter Q w) ≡ pages H p n w
unfolding pages
pages-irr H p zero Q c w = refl
pages-irr H p (suc n) Q c w =
    rw (contents-irr H p Q (covers_less H (suc p) (p + suc n) Q (omega arith) c) w, onward-irr H p Q (covers_less H (suc p) (p + suc n) Q (omega arith) c) w)
    (ap (λ (cs : List Contents). contents_of H p w ∷ cs) (pages-irr H (suc p) n Q (covers_less H (suc p + n) (p + suc n) Q (omega arith) c) (onward H p w)))

pub left-irr : (H : Hash) (p n : ℕ) (Q : Star → Bool) → Covers H (p + n) Q → (w : List Star) → left H p n (filter Q w) ≡ filter Q (left H p n w)
unfolding left
left-irr H p zero Q c w = refl
left-irr H p (suc n) Q c w =
    rw (onward-irr H p Q (covers_less H (suc p) (p + suc n) Q (omega arith) c) w)
    (left-irr H (suc p) n Q (covers_less H (suc p + n) (p + suc n) Q (omega arith) c) (onward H p w))

-- Stars homed above the stretch are left by it.
pub left_far : (H : Hash) (p n : ℕ) (Q : Star → Bool) → ((s : Star) → Q s ≡ true → p + n ≤ H.home s.number) → (w : List Star) → filter Q (left H p n w) ≡ filter Q w
unfolding left onward passing
left_far H p zero Q c w = refl
left_far H p (suc n) Q c w =
    left_far H (suc p) n Q (λ s e. omega (arith, c s e)) (onward H p w) ∙ skip
  where
    skip : filter Q (onward H p w) ≡ filter Q w
    skip = filter-absorb Q (λ (s : Star). not (stays H p (separator_of H p w) s)) (λ s e. rw (not_below-home H p (separator_of H p w) s.number (omega (arith, c s e)))) w
