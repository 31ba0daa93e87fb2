-- Shrinking undoes a growth: states and page counts.
use mathlib.Core.Path.{◌≡◌, ◌∙◌, refl, sym, ap}
use mathlib.Core.Bool.{Bool, true, false, ◌&&◌, and-false, and-true}
use Prim.Native.Nat.{ℕ, suc, ◌+◌, ◌-◌, ◌≤◌, ◌<◌}
use native.Mathlib.Numerals.{add-one}
use native.Mathlib.Omega.{arith}
use lib.Dec.{eqb}
use borrow.Author.Tests.{eqb-true, eqb-false, eq-eqb, ne_eqb}
use Rattle.hashing.specs.declared.Parameters.{Parameters}
use Rattle.hashing.specs.declared.Growth.{Growth}
use Rattle.hashing.specs.Geometry.{count_at_lem, group_count_lem, page_count, highest, grown, grown_by_lem, ungrown, is_ungrown, shrunk, shrunk_by}
use Rattle.hashing.specs.Limits.{valid_parameters, valid_growth}
use Rattle.hashing.proofs.Bounds.{both, limits, growth_within, within-valid, count-least}
use Rattle.hashing.proofs.Homes.{grown-count}

abbrev state : ℕ → ℕ → Growth
state e x = record { expansions = e; expanded = x }

same : (g : Growth) (e x : ℕ) → e ≡ g.expansions → x ≡ g.expanded → state e x ≡ g
same g e x d d' = rw (d, d')

-- any growth is taken back
pub shrunk-grown : (p : Parameters) (g : Growth) → shrunk p (grown p g) ≡ g
unfolding shrunk shrunk_by grown grown_by_lem
shrunk-grown p g = go (eqb (g.expanded + 1) (group_count_lem p g)) refl
  where
    before : g.expansions + 1 - 1 ≡ g.expansions
    before = omega arith

    go : (t : Bool) → eqb (g.expanded + 1) (group_count_lem p g) ≡ t → shrunk_by (eqb (grown_by_lem t g).expanded 0) p (grown_by_lem t g) ≡ g
    go true e =
        let last : group_count_lem p g - 1 ≡ g.expanded = omega (arith, eqb-true (g.expanded + 1) (group_count_lem p g) e) in
        rw before (same g g.expansions (group_count_lem p g - 1) refl last)
    go false e = rw (ne_eqb (g.expanded + 1) 0 (omega arith)) (same g g.expansions (g.expanded + 1 - 1) refl (omega arith))

pub grown-not_new : (p : Parameters) (g : Growth) → is_ungrown (grown p g) ≡ false
unfolding is_ungrown grown grown_by_lem
grown-not_new p g = go (eqb (g.expanded + 1) (group_count_lem p g))
  where
    go : (t : Bool) → eqb (grown_by_lem t g).expansions 0 && eqb (grown_by_lem t g).expanded 0 ≡ false
    go true = rw (ne_eqb (g.expansions + 1) 0 (omega arith))
    go false = rw (ne_eqb (g.expanded + 1) 0 (omega arith), and-false (eqb g.expansions 0))

pub new_is : (g : Growth) → is_ungrown g ≡ true → g ≡ ungrown
unfolding is_ungrown
new_is g e =
    let t = both (eqb g.expansions 0) (eqb g.expanded 0) e in
    sym (same g 0 0 (sym (eqb-true g.expansions 0 t.0)) (sym (eqb-true g.expanded 0 t.1)))

-- a growth state that a new file does not have
module _ (p : Parameters) (g : Growth) (valid : valid_parameters p ≡ true) (old : is_ungrown g ≡ false) where
  pub some : 1 ≤ count_at_lem p (g.expansions - 1)
  some = omega (arith, count-least p (g.expansions - 1), (limits p valid).groups_least)

  pub after_first : eqb g.expanded 0 ≡ true → 1 ≤ g.expansions
  unfolding is_ungrown
  after_first e =
      let t : eqb g.expansions 0 ≡ false = sym (and-true (eqb g.expansions 0)) ∙ rw e at old in
      omega (arith, eqb-false g.expansions 0 t)

  module _ (grows : valid_growth p g ≡ true) where
    pub grown-shrunk : grown p (shrunk p g) ≡ g
    unfolding shrunk shrunk_by grown grown_by_lem
    grown-shrunk = go (eqb g.expanded 0) refl
      where
        go : (t : Bool) → eqb g.expanded 0 ≡ t → grown p (shrunk_by t p g) ≡ g
        go true e =
            let e' = g.expansions - 1 in
            rw (eq-eqb (count_at_lem p e' - 1 + 1) (count_at_lem p e') (omega (arith, some)))
            (same g (e' + 1) 0 (omega (arith, after_first e)) (omega (arith, eqb-true g.expanded 0 e)))
        go false e =
            let x' = g.expanded - 1 in
            rw (ne_eqb (x' + 1) (group_count_lem p g) (omega (arith, eqb-false g.expanded 0 e, (growth_within p g grows).expanded_below)))
            (same g g.expansions (x' + 1) refl (omega (arith, eqb-false g.expanded 0 e)))

    pub shrunk-count : page_count p g ≡ suc (page_count p (shrunk p g))
    shrunk-count = ap (page_count p) (sym grown-shrunk) ∙ grown-count p (shrunk p g) valid ∙ add-one (page_count p (shrunk p g))

    -- the page given back
    pub shrunk-page : highest p g ≡ page_count p (shrunk p g)
    unfolding highest
    shrunk-page = omega (arith, shrunk-count)

    pub shrunk-below : page_count p (shrunk p g) < p.pages
    shrunk-below = omega (arith, shrunk-count, (growth_within p g grows).pages_fit)

    pub shrunk-valid : valid_growth p (shrunk p g) ≡ true
    unfolding shrunk shrunk_by
    shrunk-valid =
        within-valid p (shrunk p g) (record { expanded_below = go (eqb g.expanded 0) refl; pages_fit = omega (arith, shrunk-below) })
      where
        go : (t : Bool) → eqb g.expanded 0 ≡ t → (shrunk_by t p g).expanded < group_count_lem p (shrunk_by t p g)
        go true e = omega (arith, some)
        go false e = omega (arith, eqb-false g.expanded 0 e, (growth_within p g grows).expanded_below)
