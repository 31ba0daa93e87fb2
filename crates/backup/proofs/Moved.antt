-- Growth moves homes from the expanded group's pages to the new page alone, so a page outside the stretches stays as it is.
use mathlib.Core.Path.{◌≡◌, refl, sym, ◌∙◌}
use mathlib.Core.Bool.{true, false, ◌&&◌, true≢false}
use mathlib.Core.Logic.{◌⊎◌, inl, inr}
use mathlib.Core.List.{List}
use Prim.Native.Nat.{ℕ, suc, ◌+◌, ◌-◌, ◌≤◌, ◌<◌}
use native.Mathlib.Decide.{dec_lt, dec_le}
use native.Mathlib.Omega.{arith}
use lib.ListN.{get_or}
use borrow.Author.Tests.{eqb-true}
use Rattle.buffers.proofs.Tests.{either-false}
use Rattle.hashing.specs.declared.Parameters.{Parameters}
use Rattle.hashing.specs.declared.Growth.{Growth}
use Rattle.hashing.specs.Geometry.{multiplier_of, page_count, grown}
use Rattle.hashing.specs.Limits.{valid_parameters, valid_growth}
use Rattle.hashing.proofs.Bounds.{both}
use Rattle.placement.specs.Rule.{Star, Hash, pages, separators}
use Rattle.placement.specs.Shape.{blank}
use Rattle.placement.specs.Hash.{hash_of}
use Rattle.placement.proofs.Probing.{bounded-real}
use Rattle.home_update.proofs.Rehomed.{home-moves}
use Rattle.backup.specs.Stretches.{expands, top_at, top_twice, in_stretch, near_group, may_change}
use Rattle.backup.proofs.Agreeing.{Alike}
use Rattle.backup.proofs.Settled.{Settled, Outside, Unmoved, settled-zero, settled-top, settled-fewer, same-page}
use Rattle.backup.proofs.Ranges.{any_none, Ender, ended-before, Start, start}

module _ (p : Parameters) (g : Growth) (valid : valid_parameters p ≡ true) (grows : valid_growth p g ≡ true) where
  abbrev old : Hash
  old = hash_of p g

  abbrev new : Hash
  new = hash_of p (grown p g)

  pub alike : Alike old new
  unfolding hash_of
  alike = record { top = refl; room = refl; signature = λ k e page. rw e }

  -- A home stays, or leaves a page of the expanded group and becomes the new page.
  abbrev pub Moves : ℕ → Type 0
  Moves k = (old.home k ≡ new.home k) ⊎ ((expands p g (old.home k) ≡ true) × (old.home k < page_count p g) × (new.home k ≡ page_count p g))

  pub moves : (k : ℕ) → Moves k
  unfolding hash_of
  moves k = home-moves (multiplier_of p) p g k valid grows

  module _ (t : List Star) where
    abbrev before : List ℕ
    before = separators (pages old 0 p.pages t)

    abbrev after : List ℕ
    after = separators (pages new 0 p.pages t)

    settled_at : (h : Growth) (z : ℕ) → z < p.pages → top_at p (separators (pages (hash_of p h) 0 p.pages t)) z ≡ true → Settled (hash_of p h) (suc z) t
    unfolding top_at hash_of
    settled_at h z inside e = settled-top (hash_of p h) (bounded-real p h valid) p.pages z t inside (eqb-true _ _ e)

    -- below the new page: from the page past the last one whose separator was top
    module _ (page : ℕ) (inside : page < p.pages) (far : near_group p g before page ≡ false) (low : page < page_count p g) where
      begin : Start (top_at p before) page
      begin = start (top_at p before) page

      settled-old : Settled old begin.from t
      settled-old = go begin.after
        where
          go : (begin.from ≡ 0) ⊎ ((z : ℕ) × (begin.from ≡ suc z) × (top_at p before z ≡ true)) → Settled old begin.from t
          go (inl e) = rw e (settled-zero old t)
          go (inr (z, e, d)) = rw e (settled_at g z (omega (arith, begin.most)) d)

      settled-new : Settled new begin.from t
      settled-new = settled-fewer old new alike begin.from t (λ k h. go k h (moves k)) settled-old
        where
          go : (k : ℕ) → new.home k < begin.from → Moves k → old.home k ≡ new.home k
          go k h (inl e) = e
          go k h (inr (e, f, d)) = absurd (omega (arith, begin.most))

      -- no page of the group is here
      clear : (q : ℕ) → expands p g q ≡ true → begin.from ≤ q → q ≤ page → ⊥
      unfolding near_group
      clear q e a b =
          let none : expands p g q && in_stretch p (top_at p before) q page ≡ false =
          any_none (λ (r : ℕ). expands p g r && in_stretch p (top_at p before) r page) p.pages far q (omega arith) in
          let found : Ender (top_at p before) q page = ended-before p (top_at p before) q page b inside (rw e at none) in
          true≢false (sym found.ends ∙ begin.none found.at (omega (arith, found.low)) found.high)

      unmoved-low : (e : ℕ) → e ≡ suc page → Unmoved old new alike begin.from e
      unmoved-low e d k = go (moves k)
        where
          outside : expands p g (old.home k) ≡ true → Dec (old.home k < begin.from) → Dec (e ≤ old.home k) → Outside old begin.from e k
          outside x (yes b) c = inl b
          outside x (no b) (yes c) = inr c
          outside x (no b) (no c) = absurd (clear (old.home k) x (omega arith) (omega arith))

          go : Moves k → (old.home k ≡ new.home k) ⊎ (Outside old begin.from e k × Outside new begin.from e k)
          go (inl h) = inl h
          go (inr (x, b, c)) = inr (outside x (dec_lt (old.home k) begin.from) (dec_le e (old.home k)), inr (omega arith))

      stays-low : get_or (pages old 0 p.pages t) page blank ≡ get_or (pages new 0 p.pages t) page blank
      stays-low =
          let n : ℕ = page - begin.from in
          let here : begin.from + n ≡ page = omega (arith, begin.most) in
          rw here at
          (same-page old new alike p.pages begin.from n t (omega arith) settled-old settled-new (unmoved-low (begin.from + suc n) (omega arith)))

    -- above it: from the page past one whose separator is top before and after
    stays-high : (page : ℕ) → page < p.pages → Ender (top_twice p before after) (page_count p g) page
        → get_or (pages old 0 p.pages t) page blank ≡ get_or (pages new 0 p.pages t) page blank
    unfolding top_twice
    stays-high page inside found =
        let z : ℕ = found.at in
        let n : ℕ = page - suc z in
        let here : suc z + n ≡ page = omega (arith, found.high) in
        let tops = both (top_at p before z) (top_at p after z) found.ends in
        rw here at
        (same-page old new alike p.pages (suc z) n t (omega arith)
        (settled_at g z (omega (arith, found.high)) tops.0)
        (settled_at (grown p g) z (omega (arith, found.high)) tops.1)
        (λ k. unmoved (suc z + suc n) k (moves k)))
      where
        unmoved : (e k : ℕ) → Moves k
            → (old.home k ≡ new.home k) ⊎ (Outside old (suc found.at) e k × Outside new (suc found.at) e k)
        unmoved e k (inl h) = inl h
        unmoved e k (inr (x, b, c)) = inr (inl (omega (arith, found.low)), inl (omega (arith, found.low)))

    pub page-stays : (page : ℕ) → page < p.pages → may_change p g before after page ≡ false
        → get_or (pages old 0 p.pages t) page blank ≡ get_or (pages new 0 p.pages t) page blank
    unfolding may_change
    page-stays page inside e = go (dec_lt page (page_count p g))
      where
        out : (near_group p g before page ≡ false) × (in_stretch p (top_twice p before after) (page_count p g) page ≡ false)
        out = either-false (near_group p g before page) (in_stretch p (top_twice p before after) (page_count p g) page) e

        go : Dec (page < page_count p g) → get_or (pages old 0 p.pages t) page blank ≡ get_or (pages new 0 p.pages t) page blank
        go (yes d) = stays-low page inside out.0 d
        go (no d) = stays-high page inside (ended-before p (top_twice p before after) (page_count p g) page (omega arith) inside out.1)
