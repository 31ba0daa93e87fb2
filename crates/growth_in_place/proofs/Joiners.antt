-- How many stars join the new page, number by number.
use mathlib.Core.Path.{◌≡◌, refl, ap, ◌∙◌}
use mathlib.Core.Bool.{Bool, true, false}
use mathlib.Core.List.{List, [], ◌∷◌}
use Prim.Native.Nat.{ℕ, zero, suc, ◌+◌, ◌*◌, ◌≤◌, ◌<◌}
use native.Mathlib.Nat.{suc-mul}
use native.Mathlib.Numerals.{add-one}
use native.Mathlib.Omega.{arith}
use lib.ListN.{length, take, drop, get_or, length-append, length-take, length-map, get_or-map}
use lib.Seq.{take-suc}
use Rattle.hashing.specs.declared.Parameters.{Parameters}
use Rattle.hashing.specs.declared.Growth.{Growth}
use Rattle.pages.specs.Page.{part}
use Rattle.placement.specs.Rule.{keep, filter}
use Rattle.placement.specs.Shape.{home_in, homes_of}
use Rattle.placement.proofs.Filters.{filter-append, length-filter}
use Rattle.growth_in_place.specs.Expansion.{joins_at, joiners_in, joiners_below}

-- one for a number that joins it
abbrev pub one_if : Bool → ℕ
one_if true = 1
one_if false = 0

module _ (p : Parameters) (g : Growth) where
  -- the homes in the pool, item by item
  pub home-item : (hs ns : List ℕ) (i : ℕ) → hs ≡ homes_of p g ns → get_or hs i 0 ≡ home_in p g (get_or ns i 0)
  unfolding homes_of
  home-item hs ns i e = ap (λ (l : List ℕ). get_or l i 0) e ∙ get_or-map (home_in p g) ns i 0

  pub length-homes : (hs ns : List ℕ) → hs ≡ homes_of p g ns → length hs ≡ length ns
  unfolding homes_of
  length-homes hs ns e = ap length e ∙ length-map ns (home_in p g)

  pub joiners_none : joiners_in p g [] ≡ 0
  unfolding joiners_in filter
  joiners_none = refl

  pub joiners_next : (l : List ℕ) (i : ℕ) (t : Bool) → i < length l → joins_at p g (get_or l i 0) ≡ t
      → joiners_in p g (take (i + 1) l) ≡ joiners_in p g (take i l) + one_if t
  unfolding joiners_in filter
  joiners_next l i t h e =
      rw (add-one i, take-suc l i 0 h, filter-append (joins_at p g) (take i l) (get_or l i 0 ∷ []), e)
      (length-append (filter (joins_at p g) (take i l)) (keep t (get_or l i 0) []) ∙ go t)
    where
      go : (t : Bool) → length (filter (joins_at p g) (take i l)) + length (keep t (get_or l i 0) []) ≡ length (filter (joins_at p g) (take i l)) + one_if t
      go true = refl
      go false = refl

  pub joiners_most : (l : List ℕ) → joiners_in p g l ≤ length l
  unfolding joiners_in
  joiners_most l = length-filter (joins_at p g) l

  part-most : (q : ℕ) (ns : List ℕ) → joiners_in p g (part p.places q ns) ≤ p.places
  unfolding part
  part-most q ns =
      omega (arith, joiners_most (take p.places (drop (q * p.places) ns)), length-take p.places (drop (q * p.places) ns))

  pub below_none : (ns : List ℕ) → joiners_below p g ns 0 ≡ 0
  unfolding joiners_below
  below_none ns = refl

  pub below_next : (ns : List ℕ) (q : ℕ) → joiners_below p g ns (q + 1) ≡ joiners_below p g ns q + joiners_in p g (part p.places q ns)
  unfolding joiners_below
  below_next ns q = rw (add-one q)

  pub below-most : (ns : List ℕ) (q : ℕ) → joiners_below p g ns q ≤ q * p.places
  unfolding joiners_below
  below-most ns zero = omega arith
  below-most ns (suc q) = omega (arith, below-most ns q, part-most q ns, suc-mul q p.places)
