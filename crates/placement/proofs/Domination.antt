-- Over sound pages the rule never lowers a separator below the stored one, and leaves nothing.
use mathlib.Core.Path.{◌≡◌, sym, ap, ◌∙◌}
use mathlib.Core.Bool.{Bool, not}
use mathlib.Core.List.{List, [], ◌∷◌}
use Prim.Native.Nat.{ℕ, zero, suc, ◌+◌, ◌≤◌, ◌<◌}
use native.Mathlib.Nat.{suc-add, add-suc, add-zero, le_trans}
use native.Mathlib.Omega.{arith}
use lib.ListN.{length, get_or}
use borrow.Author.Tests.{eq-eqb}
use Rattle.buffers.proofs.Tests.{not_mono}
use Rattle.placement.specs.Rule.{Star, Hash, separators, filter, below, staying, passing, separator_of, contents_of, onward, pages, left, first}
use Rattle.placement.proofs.Filters.{filter-all, filter_comm, filter-absorb, length-filter}
use Rattle.placement.proofs.Separator.{stays, staying-filter, sep_fits, sep_le, sep_great, below-mono}
use Rattle.placement.proofs.Standing.{length-separators, stands_at, stands_here, stands-later}
use Rattle.placement.proofs.Composition.{length-pages}

-- The separators vs, from page p, hold the stars w: each page keeps at most room of them, and none is carried past.
abbrev pub Holds : Hash → ℕ → List ℕ → List Star → Type 0
Holds H p [] w = w ≡ []
Holds H p (v ∷ vs) w = (v ≤ H.top) × (length (staying H p v w) ≤ H.room) × Holds H (suc p) vs (passing H p v w)

passing-filter : (H : Hash) (p v : ℕ) (q : Star → Bool) (w : List Star) → passing H p v (filter q w) ≡ filter q (passing H p v w)
unfolding passing
passing-filter H p v q w = filter_comm (λ (s : Star). not (stays H p v s)) q w

-- They hold any part of what they hold.
pub holds-part : (H : Hash) (p : ℕ) (vs : List ℕ) (q : Star → Bool) (w : List Star) → Holds H p vs w → Holds H p vs (filter q w)
unfolding filter
holds-part H p [] q w h = rw h
holds-part H p (v ∷ vs) q w h = (
  h.0,
  rw (staying-filter H p v q w) (le_trans (length-filter q (staying H p v w)) h.1),
  rw (passing-filter H p v q w) (holds-part H (suc p) vs q (passing H p v w) h.2),
)

-- By first pages: at most room each, none past the end.
pub holds-first : (H : Hash) (p : ℕ) (vs : List ℕ) (w : List Star) → ((i : ℕ) → i < length vs → get_or vs i 0 ≤ H.top)
    → ((i : ℕ) → i < length vs → length (filter (stands_at H p vs (p + i)) w) ≤ H.room)
    → filter (stands_at H p vs (p + length vs)) w ≡ [] → Holds H p vs w
unfolding first
holds-first H p [] w a c e = sym (filter-all (stands_at H p [] (p + 0)) (λ s. eq-eqb p (p + 0) (omega arith)) w) ∙ e
holds-first H p (v ∷ vs) w a c e = (
  a zero (omega arith),
  (rw (add-zero p, stands_here H p v vs w) at (c zero (omega arith))),
  holds-first H (suc p) vs (passing H p v w)
      (λ i h. a (suc i) (omega arith))
      (λ i h. rw (suc-add p i, ← stands-later H p v (suc (p + i)) vs w (omega arith)) (rw (add-suc p i) at (c (suc i) (omega arith))))
      (rw (suc-add p (length vs), ← stands-later H p v (suc (p + length vs)) vs w (omega arith)) (rw (add-suc p (length vs)) at e)),
)

-- The rule's separators hold the list when nothing is left.
pub holds-own : (H : Hash) (p n : ℕ) (w : List Star) → left H p n w ≡ [] → Holds H p (separators (pages H p n w)) w
unfolding pages left separators contents_of onward
holds-own H p zero w e = e
holds-own H p (suc n) w e = (sep_le H p w, sep_fits H p w, holds-own H (suc p) n (onward H p w) e)

-- The rule's separator is at or above one that holds, and what it carries on is part of what that one would.
onward-part : (H : Hash) (p v : ℕ) (w : List Star) → v ≤ separator_of H p w
    → onward H p w ≡ filter (λ (s : Star). not (stays H p (separator_of H p w) s)) (passing H p v w)
unfolding onward passing
onward-part H p v w h =
    sym (filter-absorb (λ (s : Star). not (stays H p (separator_of H p w) s)) (λ (s : Star). not (stays H p v s)) (λ s. not_mono (below H p v s.number) (below H p (separator_of H p w) s.number) (below-mono H p v (separator_of H p w) s.number h)) w)

-- What some separators hold, the rule holds.
pub dominated : (H : Hash) (p : ℕ) (vs : List ℕ) (w : List Star) → Holds H p vs w → left H p (length vs) w ≡ []
unfolding left
dominated H p [] w h = h
dominated H p (v ∷ vs) w h =
    ap (λ (l : List Star). left H (suc p) (length vs) l) (onward-part H p v w (sep_great H p w v h.0 h.1))
    ∙ (dominated H (suc p) vs (filter (λ (s : Star). not (stays H p (separator_of H p w) s)) (passing H p v w)) (holds-part H (suc p) vs (λ (s : Star). not (stays H p (separator_of H p w) s)) (passing H p v w) h.2))

-- And its separators are at or above them.
pub stored : (H : Hash) (p : ℕ) (vs : List ℕ) (w : List Star) → Holds H p vs w → (i : ℕ) → i < length vs → get_or vs i 0 ≤ get_or (separators (pages H p (length vs) w)) i 0
unfolding pages separators contents_of
stored H p [] w h i g = absurd (omega arith)
stored H p (v ∷ vs) w h zero g = sep_great H p w v h.0 h.1
stored H p (v ∷ vs) w h (suc i) g =
    rw (onward-part H p v w (sep_great H p w v h.0 h.1))
    (stored H (suc p) vs (filter (λ (s : Star). not (stays H p (separator_of H p w) s)) (passing H p v w)) (holds-part H (suc p) vs (λ (s : Star). not (stays H p (separator_of H p w) s)) (passing H p v w) h.2) i (omega arith))

-- A part of a list that leaves nothing leaves nothing.
pub left-part : (H : Hash) (p n : ℕ) (q : Star → Bool) (w : List Star) → left H p n w ≡ [] → left H p n (filter q w) ≡ []
left-part H p n q w e =
    rw (length-separators (pages H p n w), length-pages H p n w) at
    (dominated H p (separators (pages H p n w)) (filter q w) (holds-part H p (separators (pages H p n w)) q w (holds-own H p n w e)))
