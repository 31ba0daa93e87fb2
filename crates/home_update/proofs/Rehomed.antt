-- The home after one growth, and the home before the latest, from the present one.
use mathlib.Core.Path.{◌≡◌, ◌∙◌, refl, sym, ap}
use mathlib.Core.Bool.{Bool, true, false, ◌&&◌, cond, and-false, and-true}
use mathlib.Core.Logic.{◌⊎◌, inl, inr}
use Prim.Native.Nat.{ℕ, zero, suc, ◌+◌, ◌*◌, ◌≤◌, ◌<◌}
use native.Mathlib.Decide.{dec_le, dec_lt}
use native.Mathlib.Numerals.{add-one}
use native.Mathlib.Omega.{arith}
use lib.Dec.{leb, ltb, eqb}
use borrow.Author.Tests.{leb-false, eqb-true, le-leb, lt-ltb, le-ltb, lt-leb, eq-eqb, ne_eqb}
use Rattle.hashing.specs.declared.Parameters.{Parameters}
use Rattle.hashing.specs.declared.Growth.{Growth}
use Rattle.hashing.specs.Geometry.{group_size_lem, group_count_lem, page_count, highest, grown, grown_by_lem, is_ungrown, shrunk, expands}
use Rattle.hashing.specs.Limits.{valid_parameters, valid_growth}
use Rattle.hashing.specs.Home.{rank_at, chosen, after_steps, home}
use Rattle.hashing.proofs.Bounds.{limits}
use Rattle.hashing.proofs.Homes.{rank-at-below, steps_below, step-over, steps_one, home_at, home-is}
use Rattle.hashing.proofs.Shrinking.{grown-shrunk, shrunk-page, shrunk-valid}

steps_same :
    (a : ℕ) (p : Parameters) (g g' : Growth) (k i : ℕ) → i ≤ g.expansions → i ≤ g'.expansions →
    after_steps a p g k i ≡ after_steps a p g' k i
unfolding after_steps
steps_same a p g g' k zero h h' = refl
steps_same a p g g' k (suc i) h h' =
    rw (step-over a p g k i (after_steps a p g k i) h, step-over a p g' k i (after_steps a p g' k i) h', steps_same a p g g' k i (omega arith) (omega arith))

-- after one growth, the same step has reached one group more
home-grown-is :
    (a : ℕ) (p : Parameters) (g : Growth) (k : ℕ) → valid_parameters p ≡ true → valid_growth p g ≡ true →
    home a p (grown p g) k ≡ home_at a p g k (suc g.expanded)
unfolding grown grown_by_lem
home-grown-is a p g k v w = go (eqb (g.expanded + 1) (group_count_lem p g)) refl
  where
    page : ℕ
    page = after_steps a p g k g.expansions

    go : (t : Bool) → eqb (g.expanded + 1) (group_count_lem p g) ≡ t → home a p (grown_by_lem t g) k ≡ home_at a p g k (suc g.expanded)
    go true e =
        let g' : Growth = record { expansions = g.expansions + 1; expanded = 0 } in
        let in_reach : rank_at p g.expansions page < suc g.expanded = omega (arith, rank-at-below p (limits p v) g.expansions page, eqb-true (g.expanded + 1) (group_count_lem p g) e) in
        home-is a p g' k
        ∙ rw (
          le-ltb (rank_at p (g.expansions + 1) (after_steps a p g' k (g.expansions + 1))) 0 (omega arith),
          and-false (chosen a p k (g.expansions + 1)),
          steps_one a p g' k g.expansions,
          step-over a p g' k g.expansions (after_steps a p g' k g.expansions) (omega arith),
          steps_same a p g' g k g.expansions (omega arith) (omega arith),
          lt-ltb (rank_at p g.expansions page) (suc g.expanded) in_reach,
          and-true (chosen a p k g.expansions),
        )
    go false e =
        let g' : Growth = record { expansions = g.expansions; expanded = g.expanded + 1 } in
        home-is a p g' k
        ∙ rw (steps_same a p g' g k g.expansions (omega arith) (omega arith), add-one g.expanded)

-- the home after one growth, from the home before it: a star that the present partial expansion moved stays, and of the others
-- the chosen ones of the group now expanded move
pub home-regrown :
    (a : ℕ) (p : Parameters) (g : Growth) (k old : ℕ) → valid_parameters p ≡ true → valid_growth p g ≡ true → old ≡ home a p g k →
    home a p (grown p g) k ≡ cond (leb (group_size_lem p g * group_count_lem p g) old) old (cond (chosen a p k g.expansions && eqb (rank_at p g.expansions old) g.expanded) (group_size_lem p g * group_count_lem p g + g.expanded) old)
home-regrown a p g k old v w h =
    home-grown-is a p g k v w
    ∙ go (chosen a p k g.expansions) (dec_lt r g.expanded) (dec_le r g.expanded) (h ∙ home-is a p g k)
  where
    page : ℕ
    page = after_steps a p g k g.expansions

    r : ℕ
    r = rank_at p g.expansions page

    span : ℕ
    span = group_size_lem p g * group_count_lem p g

    low : page < span
    low = steps_below a p (limits p v) g k g.expansions

    go :
        (t : Bool) → Dec (r < g.expanded) → Dec (r ≤ g.expanded) → old ≡ cond (t && ltb r g.expanded) (span + r) page →
        cond (t && ltb r (suc g.expanded)) (span + r) page ≡ cond (leb span old) old (cond (t && eqb (rank_at p g.expansions old) g.expanded) (span + g.expanded) old)
    go false d d' e = rw (e, lt-leb span page low)
    go true (yes b) d' e =
        let e' : old ≡ span + r = rw (lt-ltb r g.expanded b) at e in
        rw (lt-ltb r (suc g.expanded) (omega arith), e', le-leb span (span + r) (omega arith))
    go true (no f) (yes b) e =
        let e' : old ≡ page = rw (le-ltb r g.expanded (omega arith)) at e in
        let same : r ≡ g.expanded = omega arith in
        rw (lt-ltb r (suc g.expanded) (omega arith), e', lt-leb span page low, eq-eqb r g.expanded same, same)
    go true (no f) (no f') e =
        let e' : old ≡ page = rw (le-ltb r g.expanded (omega arith)) at e in
        rw (le-ltb r (suc g.expanded) (omega arith), e', lt-leb span page low, ne_eqb r g.expanded (omega arith))

-- a home stays, or becomes the new page
pub home-grown :
    (a : ℕ) (p : Parameters) (g : Growth) (k : ℕ) → valid_parameters p ≡ true → valid_growth p g ≡ true →
    (home a p (grown p g) k ≡ home a p g k) ⊎ (home a p (grown p g) k ≡ page_count p g)
unfolding page_count
home-grown a p g k v w =
    rw (home-regrown a p g k (home a p g k) v w refl)
    (go (leb (group_size_lem p g * group_count_lem p g) (home a p g k)) (chosen a p k g.expansions && eqb (rank_at p g.expansions (home a p g k)) g.expanded))
  where
    go :
        (t t' : Bool) →
        (cond t (home a p g k) (cond t' (group_size_lem p g * group_count_lem p g + g.expanded) (home a p g k)) ≡ home a p g k) ⊎ (cond t (home a p g k) (cond t' (group_size_lem p g * group_count_lem p g + g.expanded) (home a p g k)) ≡ group_size_lem p g * group_count_lem p g + g.expanded)
    go true t' = inl refl
    go false true = inr refl
    go false false = inl refl

-- a home stays, or leaves a page of the expanded group and becomes the new page
pub home-moves :
    (a : ℕ) (p : Parameters) (g : Growth) (k : ℕ) → valid_parameters p ≡ true → valid_growth p g ≡ true →
    (home a p g k ≡ home a p (grown p g) k) ⊎ ((expands p g (home a p g k) ≡ true) × (home a p g k < page_count p g) × (home a p (grown p g) k ≡ page_count p g))
unfolding expands page_count rank_at
home-moves a p g k v w =
    rw (home-regrown a p g k (home a p g k) v w refl)
    (go (leb span h) refl (chosen a p k g.expansions) (eqb (rank_at p g.expansions h) g.expanded) refl)
  where
    h : ℕ
    h = home a p g k

    span : ℕ
    span = group_size_lem p g * group_count_lem p g

    go :
        (t : Bool) → leb span h ≡ t → (u r : Bool) → eqb (rank_at p g.expansions h) g.expanded ≡ r →
        (h ≡ cond t h (cond (u && r) (span + g.expanded) h))
        ⊎ ((ltb h span && r ≡ true) × (h < span + g.expanded) × (cond t h (cond (u && r) (span + g.expanded) h) ≡ span + g.expanded))
    go true e u r d = inl refl
    go false e false r d = inl refl
    go false e true false d = inl refl
    go false e true true d =
        let low : h < span = leb-false span h e in
        inr (rw (lt-ltb h span low), omega arith, refl)

-- a star that is not homed at the page given back keeps its home
pub home-shrunk :
    (p : Parameters) (g : Growth) → valid_parameters p ≡ true → is_ungrown g ≡ false → valid_growth p g ≡ true → (a k : ℕ) →
    (home a p g k ≡ highest p g → ⊥) → home a p (shrunk p g) k ≡ home a p g k
home-shrunk p g valid old grows a k away = go (home-grown a p (shrunk p g) k valid (shrunk-valid p g valid old grows))
  where
    now : home a p (grown p (shrunk p g)) k ≡ home a p g k
    now = ap (λ (s : Growth). home a p s k) (grown-shrunk p g valid old grows)

    go :
        (home a p (grown p (shrunk p g)) k ≡ home a p (shrunk p g) k) ⊎ (home a p (grown p (shrunk p g)) k ≡ page_count p (shrunk p g)) →
        home a p (shrunk p g) k ≡ home a p g k
    go (inl e) = sym e ∙ now
    go (inr e) = absurd (away (sym now ∙ e ∙ sym (shrunk-page p g valid old grows)))
