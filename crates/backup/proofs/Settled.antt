-- A page depends only on the stars homed at it or below, and above a page past which nothing is carried.
use mathlib.Core.Path.{◌≡◌, sym, ap, ◌∙◌}
use mathlib.Core.Bool.{Bool, true, false, ◌&&◌, and-false, false≢true}
use mathlib.Core.Logic.{⊎_elim, ◌⊎◌, inl, inr}
use mathlib.Core.List.{List}
use Prim.Native.Nat.{ℕ, suc, ◌+◌, ◌≤◌, ◌<◌}
use native.Mathlib.Nat.{zero-add}
use native.Mathlib.Omega.{arith}
use lib.ListN.{get_or, drop}
use lib.Seq.{get_or-take, get_or-drop}
use borrow.Author.Tests.{lt-ltb, le-ltb, ltb-true}
use Rattle.placement.specs.Rule.{Star, Hash, Contents, filter, pages, left, separators}
use Rattle.placement.specs.Shape.{blank}
use Rattle.placement.proofs.Filters.{Within, filter-ext, filter-filter, filter_none, filter-rest, filter-absorb, member_filter}
use Rattle.placement.proofs.Separator.{Bounded}
use Rattle.placement.proofs.Composition.{middle_pages}
use Rattle.placement.proofs.Irrelevance.{near, far, near-covers, far-home, pages-irr, left-irr, left_far}
use Rattle.placement.proofs.Domination.{left-part}
use Rattle.placement.proofs.Locality.{Ended, ended-top}
use Rattle.placement.proofs.Writing.{get_d_separators}
use Rattle.backup.proofs.Agreeing.{Alike, Agree, pages-same, left-same}

-- The stars homed at a or above and below e.
abbrev pub between : Hash → ℕ → ℕ → Star → Bool
between H a e s = far H a s && near H e s

-- Nothing is carried on to page a.
abbrev pub Settled : Hash → ℕ → List Star → Type 0
Settled H a t = Ended H 0 a t

pub settled-zero : (H : Hash) (t : List Star) → Settled H 0 t
unfolding left
settled-zero H t = filter_none (near H (0 + 0)) (λ s. le-ltb (H.home s.number) (0 + 0) (omega arith)) t

-- Pages of the layout from a on, by what is carried on to a.
pub part_of : (H : Hash) (M a n : ℕ) (t : List Star) → a + n < M → get_or (pages H 0 M t) (a + n) blank ≡ get_or (pages H a (suc n) (left H 0 a t)) n blank
part_of H M a n t h =
    sym
    (ap (λ (cs : List Contents). get_or cs n blank) (sym (middle_pages H a (suc n) M t (omega arith)))
    ∙ get_or-take (suc n) (drop a (pages H 0 M t)) n blank (omega arith)
    ∙ get_or-drop a (pages H 0 M t) n blank)

pub settled-top : (H : Hash) → Bounded H → (M z : ℕ) (t : List Star) → z < M → get_or (separators (pages H 0 M t)) z 0 ≡ H.top → Settled H (suc z) t
unfolding left
settled-top H b M z t h e =
    ended-top H b 0 z t
    (get_d_separators (pages H 0 (suc z) t) z
    ∙ ap (λ (c : Contents). c.separator) (sym (rw (zero-add z) at (part_of H M 0 z t (omega arith))))
    ∙ sym (get_d_separators (pages H 0 M t) z)
    ∙ e)

-- what waits for page a are the stars homed there or above
left-settled : (H : Hash) (a : ℕ) (t : List Star) → Settled H a t → left H 0 a t ≡ filter (far H (0 + a)) t
left-settled H a t e = sym (filter-rest (near H (0 + a)) (left H 0 a t) e) ∙ left_far H 0 a (far H (0 + a)) (far-home H (0 + a)) t

pub page-alone : (H : Hash) (M a n : ℕ) (t : List Star) → a + n < M → Settled H a t
    → get_or (pages H 0 M t) (a + n) blank ≡ get_or (pages H a (suc n) (filter (between H a (a + suc n)) t)) n blank
page-alone H M a n t h e =
    part_of H M a n t h
    ∙ ap (λ (cs : List Contents). get_or cs n blank)
    (sym (pages-irr H a (suc n) (near H (a + suc n)) (near-covers H (a + suc n)) (left H 0 a t))
    ∙ ap (λ (w : List Star). pages H a (suc n) (filter (near H (a + suc n)) w)) (rw (zero-add a) at (left-settled H a t e))
    ∙ ap (pages H a (suc n)) (filter-filter (near H (a + suc n)) (far H a) t))

-- The home of k is below page a, or at e or above.
abbrev pub Outside : Hash → ℕ → ℕ → ℕ → Type 0
Outside H a e k = (H.home k < a) ⊎ (e ≤ H.home k)

outside_not : (H : Hash) (a e : ℕ) (s : Star) → Outside H a e s.number → between H a e s ≡ false
outside_not H a e s (inl h) = rw (lt-ltb (H.home s.number) a h)
outside_not H a e s (inr h) = rw (le-ltb (H.home s.number) e h, and-false (far H a s))

module _ (H K : Hash) (alike : Alike H K) where
  -- No home moves into or out of the pages from a up to the one before e.
  abbrev pub Unmoved : ℕ → ℕ → Type 0
  Unmoved a e = (k : ℕ) → (H.home k ≡ K.home k) ⊎ (Outside H a e k × Outside K a e k)

  same-between : (a e : ℕ) → Unmoved a e → (t : List Star) → filter (between H a e) t ≡ filter (between K a e) t
  same-between a e u = filter-ext (between H a e) (between K a e) (λ s. go s (u s.number))
    where
      go : (s : Star) → (H.home s.number ≡ K.home s.number) ⊎ (Outside H a e s.number × Outside K a e s.number) → between H a e s ≡ between K a e s
      go s (inl d) = rw d
      go s (inr o) = outside_not H a e s o.0 ∙ sym (outside_not K a e s o.1)

  agree-between : (a e : ℕ) → Unmoved a e → (t : List Star) → Agree H K (filter (between K a e) t)
  agree-between a e u t s m = ⊎_elim (λ d. d) (λ (o : Outside H a e s.number × Outside K a e s.number). absurd (clash o.1)) (u s.number)
    where
      clash : Outside K a e s.number → ⊥
      clash o = false≢true (sym (outside_not K a e s o) ∙ (member_filter (between K a e) t s m).1)

  -- So page a + n is the same under both, if nothing is carried on to page a under either.
  pub same-page : (M a n : ℕ) (t : List Star) → a + n < M → Settled H a t → Settled K a t → Unmoved a (a + suc n)
      → get_or (pages H 0 M t) (a + n) blank ≡ get_or (pages K 0 M t) (a + n) blank
  same-page M a n t h eh ek u =
      page-alone H M a n t h eh
      ∙ ap (λ (w : List Star). get_or (pages H a (suc n) w) n blank) (same-between a (a + suc n) u t)
      ∙ ap (λ (cs : List Contents). get_or cs n blank) (pages-same H K alike a (suc n) (filter (between K a (a + suc n)) t) (agree-between a (a + suc n) u t))
      ∙ sym (page-alone K M a n t h ek)

  -- Homes below page a only go away: what is carried on to no page a under H is carried on to none under K.
  pub settled-fewer : (a : ℕ) (t : List Star) → ((k : ℕ) → K.home k < a → H.home k ≡ K.home k) → Settled H a t → Settled K a t
  settled-fewer a t goes e =
      sym (left-irr K 0 a (near K (0 + a)) (near-covers K (0 + a)) t)
      ∙ sym (left-same H K alike 0 a (filter (near K (0 + a)) t) agree)
      ∙ ap (left H 0 a) (sym (filter-absorb (near K (0 + a)) (near H (0 + a)) fewer t))
      ∙ left-part H 0 a (near K (0 + a)) (filter (near H (0 + a)) t) (left-irr H 0 a (near H (0 + a)) (near-covers H (0 + a)) t ∙ e)
    where
      kept : (s : Star) → near K (0 + a) s ≡ true → H.home s.number ≡ K.home s.number
      kept s g = goes s.number (rw (zero-add a) at (ltb-true (K.home s.number) (0 + a) g))

      fewer : Within (near K (0 + a)) (near H (0 + a))
      fewer s g = rw (kept s g) g

      agree : Agree H K (filter (near K (0 + a)) t)
      agree s m = kept s (member_filter (near K (0 + a)) t s m).1
